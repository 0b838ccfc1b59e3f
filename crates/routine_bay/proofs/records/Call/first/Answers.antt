use Rattle.std.proofs.Common.{◌≡◌, slice_index, ap, refl, arith, rules}
use Rattle.sheet.specs.Bytes.{word_at}
use Rattle.catalog.specs.Domains.{named}
use Rattle.routine_bay.specs.Records.{record_in, kind_of, offer_in, Offer, Start, Set, Step, Stop, Show}
use Rattle.routine_bay.proofs.Reading.{front-at, offered-at}
use Rattle.routine_bay.proofs.records.Call.first.Goals as goal

pub returns-in_ok-sheet-in-0 : goal.returns-in_ok-sheet-in-0
returns-in_ok-sheet-in-0 c =
    let bs = c.args.list.now in
    let first = c.in_ok-record.record.now in
    let tail = c.in_ok-record.tail.now in
    let (is, left, long) = c.in_ok-record.ensures.cases in
    let size : c.from_le_bytes-number.result ≡ word_at first 4 = search rules in
    let (whole, sheet, rest) = offered-at bs first tail is left long c.in_ok-sheet-in-0.sheet.now c.in_ok-sheet-in-0.rest.now c.from_le_bytes-number.result size c.in_ok-sheet-in-0.ensures.cases in
    (record_in first Offer, front-at bs first tail is left long Offer (ap kind_of c.in-0.is) whole, ap (offer_in (named (slice_index first 1))) sheet, rest)

pub returns-in-1 : goal.returns-in-1
returns-in-1 c =
    let first = c.in_ok-record.record.now in
    let (is, left, long) = c.in_ok-record.ensures.cases in
    (record_in first Start, front-at c.args.list.now first c.in_ok-record.tail.now is left long Start (ap kind_of c.in-1.is) (omega arith), refl, left)

pub returns-in-2 : goal.returns-in-2
returns-in-2 c =
    let first = c.in_ok-record.record.now in
    let (is, left, long) = c.in_ok-record.ensures.cases in
    (record_in first Set, front-at c.args.list.now first c.in_ok-record.tail.now is left long Set (ap kind_of c.in-2.is) (omega arith), search rules, left)

pub returns-in-3 : goal.returns-in-3
returns-in-3 c =
    let first = c.in_ok-record.record.now in
    let (is, left, long) = c.in_ok-record.ensures.cases in
    (record_in first Step, front-at c.args.list.now first c.in_ok-record.tail.now is left long Step (ap kind_of c.in-3.is) (omega arith), search rules, left)

pub returns-in-4 : goal.returns-in-4
returns-in-4 c =
    let first = c.in_ok-record.record.now in
    let (is, left, long) = c.in_ok-record.ensures.cases in
    (record_in first Stop, front-at c.args.list.now first c.in_ok-record.tail.now is left long Stop (ap kind_of c.in-4.is) (omega arith), refl, left)

pub returns-in-5 : goal.returns-in-5
returns-in-5 c =
    let first = c.in_ok-record.record.now in
    let (is, left, long) = c.in_ok-record.ensures.cases in
    (record_in first Show, front-at c.args.list.now first c.in_ok-record.tail.now is left long Show (ap kind_of c.in-5.is) (omega arith), search rules, left)
