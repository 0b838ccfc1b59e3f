-- Checks in a row, and the first of them that refuses. Assumes nothing.
use Rattle.std.specs.Prelude.{ℕ, zero, suc, ◌*◌, Bool, true, false, List, take, drop, Ok, Err, Result}

-- one check after another: what the first refuses, else what the second answers (in code, `?`)
abbrev pub and_then : {A B E : Type 0} → Result A E → (A → Result B E) → Result B E
and_then (Ok x) next = next x
and_then (Err e) next = Err e

-- a check that only passes or refuses
abbrev pub Check : Type 0 → Type 0
Check E = Result (Unit {0}) E

-- passes where the test holds, else refuses so
abbrev pub unless : {E : Type 0} → Bool → E → Check E
unless true e = Ok tt
unless false e = Err e

-- what a check found is not needed: only whether it passed
abbrev pub passed : {A E : Type 0} → Result A E → Check E
passed r = and_then r (λ _. Ok tt)

-- the scan: the refusal at the first index below n at which f refuses, if there is one
abbrev pub up_to : {E : Type 0} → (ℕ → Check E) → ℕ → Check E
up_to f zero = Ok tt
up_to f (suc n) = and_then (up_to f n) (λ _. f n)

-- record i of a list of records of one size
abbrev pub chunk : {A : Type 0} → ℕ → ℕ → List A → List A
chunk size i xs = take size (drop (i * size) xs)
