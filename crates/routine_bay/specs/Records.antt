-- A list of calls in bytes: records of 12 bytes, and behind that of an offer its sheet. Assumes nothing.
use Rattle.std.specs.Prelude.{◌≡◌, ℕ, ℤ, ◌+◌, cond, List, [], ◌∷◌, length, take, drop, Some, None, Option, nat_le, slice_index}
use Rattle.number.specs.Codes.{nth}
use Rattle.sheet.specs.Bytes.{word_at, integer_at}
use Rattle.rules.specs.Tables.{verdict_of}
use Rattle.bay.specs.Calls as Calls
use Rattle.catalog.specs.Domains.{named, dom}
use Rattle.catalog.specs.declared.names.DomainName.{DomainName}
use Rattle.routine_bay.specs.declared.records.Call.{Call}
use Rattle.routine_bay.specs.declared.records.Call.TheVariants as Read

-- the six calls
pub data Kind : Type 0 where
  Offer : Kind
  Start : Kind
  Set : Kind
  Step : Kind
  Stop : Kind
  Show : Kind

-- a call as it is written: which of the six it is, a domain, a number and an integer
pub record Record : Type 0 where
  pub kind : Kind
  pub domain : ℕ
  pub number : ℕ
  pub value : ℤ

-- the calls by their codes, from 0
abbrev pub kinds : List Kind
kinds = Offer ∷ Start ∷ Set ∷ Step ∷ Stop ∷ Show ∷ []

abbrev pub kind_of : ℕ → Option Kind
kind_of code = nth kinds code

-- what the first 12 bytes of a list say, where the first is the code of this call
abbrev pub record_in : List ℕ → Kind → Record
record_in bs kind = record { kind = kind; domain = slice_index bs 1; number = word_at bs 4; value = integer_at bs 8 }

-- how many bytes of a sheet follow a record: those of an offer
abbrev pub size_by : Kind → ℕ → ℕ
size_by Offer n = n
size_by Start n = 0
size_by Set n = 0
size_by Step n = 0
size_by Stop n = 0
size_by Show n = 0

abbrev pub sheet_size : Record → ℕ
sheet_size r = size_by r.kind r.number

-- a record whose sheet is not cut short
abbrev pub unless_cut : List ℕ → Record → Option Record
unless_cut bs r = cond (nat_le (12 + sheet_size r) (length bs)) (Some r) None

abbrev pub of_kind : List ℕ → Option Kind → Option Record
of_kind bs None = None
of_kind bs (Some kind) = unless_cut bs (record_in bs kind)

-- the record at the front of a list, if a call stands there whole
abbrev pub front : List ℕ → Option Record
front bs = cond (nat_le 12 (length bs)) (of_kind bs (kind_of (slice_index bs 0))) None

-- the sheet behind a record, and what is left of the list behind that
abbrev pub sheet_behind : Record → List ℕ → List ℕ
sheet_behind r bs = take (sheet_size r) (drop 12 bs)

abbrev pub rest_behind : Record → List ℕ → List ℕ
rest_behind r bs = drop (sheet_size r) (drop 12 bs)

-- an offer of a sheet in a domain, where one is named
abbrev pub offer_in : Option DomainName → List ℕ → Option Calls.Call
offer_in None bs = None
offer_in (Some d) bs = Some (Calls.offer (verdict_of (dom d).ops) bs)

-- the call that a record makes; none where it offers in no domain
abbrev pub call_by : Kind → Record → List ℕ → Option Calls.Call
call_by Offer r sheet = offer_in (named r.domain) sheet
call_by Start r sheet = Some Calls.begin
call_by Set r sheet = Some (Calls.change r.number r.value)
call_by Step r sheet = Some (Calls.step r.value)
call_by Stop r sheet = Some Calls.stop
call_by Show r sheet = Some (Calls.show r.number)

abbrev pub call_of : Record → List ℕ → Option Calls.Call
call_of r sheet = call_by r.kind r sheet

-- the call that a call as it is read asks for; none where it offers in no domain
abbrev pub asked : Call → Option Calls.Call
asked (Read.Offer domain sheet) = offer_in (named domain) sheet.now
asked Read.Start = Some Calls.begin
asked (Read.Set number value) = Some (Calls.change number value)
asked (Read.Step value) = Some (Calls.step value)
asked Read.Stop = Some Calls.stop
asked (Read.Show number) = Some (Calls.show number)

-- a list is read as a call and what is left behind it: they are those of the record at its front
abbrev pub Reads : List ℕ → Call → List ℕ → Type 0
Reads bs call rest = (r : Record) × (front bs ≡ Some r) × (asked call ≡ call_of r (sheet_behind r bs)) × (rest ≡ rest_behind r bs)
