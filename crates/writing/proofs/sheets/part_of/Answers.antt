use Rattle.std.proofs.Common.{rules, ◌≡◌, ◌++◌, get_or, vec_items, sym, ap, ◌∙◌, ap₂}
use Rattle.writing.proofs.Joined.{pushed, joined-more}
use Rattle.writing.proofs.sheets.part_of.Goals as goal

pub loop-record-preserved : goal.loop-record-preserved
loop-record-preserved g c =
    let item : c.record-item.result ≡ get_or c.args.records.now c.loop-record.record-index c.record-item.result = search rules in (
      pushed (vec_items c.loop-record.part) (vec_items c.extend_from_slice.new.self) c.to_bytes.result _ _ c.extend_from_slice.ensures.items c.in_ok-extend_from_slice.was
          ∙ ap₂ ◌++◌ c.loop-record.invariant.0 (c.to_bytes.ensures ∙ ap g.R.Record.bytes item)
          ∙ sym (joined-more g.R.Record.bytes c.args.records.now c.loop-record.record-index c.record-item.result c.loop-record-test.true),
      search rules,
    )
