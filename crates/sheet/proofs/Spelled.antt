-- Lists of bytes, and the numbers in them. Assumes nothing.
use Rattle.std.proofs.Common.{◌≡◌, ℕ, zero, suc, ◌+◌, ◌*◌, ◌/◌, ◌%◌, ◌<◌, ◌≤◌, List, [], ◌∷◌, length, get_or, take, drop, refl, ap, ◌∙◌, ⊎_elim, add-one, arith, length-take, w32, to_z, of_z}
use lib.Arith.{digits_div, digits_mod}
use Rattle.std.proofs.lemmas.List.{drop_all, drop_more, get_or-take, get_or-drop, get_or_past}
use Rattle.std.proofs.lemmas.Int.{of_z-to_z, ints}
use Rattle.std.proofs.lemmas.Bool.{cases_lt}
use Rattle.scan.specs.Scan.{chunk}
use Rattle.number.specs.Exact.{Int32}
use Rattle.sheet.specs.Bytes.{AllBytes, little}
use Rattle.sheet.specs.Format.{integer_bytes}

pub bytes_drop : (n : ℕ) (xs : List ℕ) → AllBytes xs → AllBytes (drop n xs)
bytes_drop n xs h i = rw get_or-drop (h (n + i))

pub bytes_take : (n : ℕ) (xs : List ℕ) → AllBytes xs → AllBytes (take n xs)
bytes_take n xs h i = ⊎_elim
    (λ (q : i < n). rw (get_or-take n xs i 0 q) (h i))
    (λ (q : n ≤ i). rw (get_or_past (take n xs) i 0 (simp length-take (omega arith))) (omega arith))
    (cases_lt i n)

pub bytes-chunk : (size i : ℕ) (xs : List ℕ) → AllBytes xs → AllBytes (chunk size i xs)
bytes-chunk size i xs h = bytes_take size (drop (i * size) xs) (bytes_drop (i * size) xs h)

-- n elements of a list, from place i on, written out
abbrev pub spell : List ℕ → ℕ → ℕ → List ℕ
spell xs i zero = []
spell xs i (suc n) = get_or xs i 0 ∷ spell xs (suc i) n

spelled-from : (xs : List ℕ) (n i : ℕ) → length xs ≡ i + n → drop i xs ≡ spell xs i n
spelled-from xs zero i e = drop_all i xs (omega arith)
spelled-from xs (suc n) i e =
    drop_more xs i 0 (omega arith) ∙ ap (λ ys. get_or xs i 0 ∷ ys) (ap (λ k. drop k xs) (add-one i) ∙ spelled-from xs n (suc i) (omega arith))

-- a list of n elements is written out in full
pub spelled : (xs : List ℕ) (n : ℕ) → length xs ≡ n → xs ≡ spell xs 0 n
spelled xs n e = spelled-from xs n 0 (omega arith)

-- what four bytes say is an integer of 32 bits
pub int32-of : (n : ℕ) → n < 4294967296 → Int32 (to_z w32 n)
int32-of n h = record { low = omega (arith, ints); high = omega (arith, ints) }

-- the digits of a number in base 256
module _ (a b c d : ℕ) (ha : a < 256) (hb : b < 256) (hc : c < 256) (hd : d < 256) where
  digit-0 : little a b c d % 256 ≡ a
  digit-0 =
      let e : little a b c d ≡ (b + c * 256 + d * 65536) * 256 + a = omega arith in
      ap (λ n. n % 256) e ∙ digits_mod (b + c * 256 + d * 65536) ha

  digit-1 : little a b c d / 256 % 256 ≡ b
  digit-1 =
      let e : little a b c d ≡ (b + c * 256 + d * 65536) * 256 + a = omega arith in
      let f : b + c * 256 + d * 65536 ≡ (c + d * 256) * 256 + b = omega arith in
      ap (λ n. n % 256) (ap (λ n. n / 256) e ∙ digits_div (b + c * 256 + d * 65536) ha ∙ f) ∙ digits_mod (c + d * 256) hb

  digit-2 : little a b c d / 65536 % 256 ≡ c
  digit-2 =
      let e : little a b c d ≡ (c + d * 256) * 65536 + (a + b * 256) = omega arith in
      let small : a + b * 256 < 65536 = omega arith in
      let f : c + d * 256 ≡ d * 256 + c = omega arith in
      ap (λ n. n % 256) (ap (λ n. n / 65536) e ∙ digits_div (c + d * 256) small ∙ f) ∙ digits_mod d hc

  digit-3 : little a b c d / 16777216 % 256 ≡ d
  digit-3 =
      let e : little a b c d ≡ d * 16777216 + (a + b * 256 + c * 65536) = omega arith in
      let small : a + b * 256 + c * 65536 < 16777216 = omega arith in
      let f : d % 256 ≡ d = omega arith in
      ap (λ n. n % 256) (ap (λ n. n / 16777216) e ∙ digits_div d small) ∙ f

  -- the integer in four bytes is written in those four bytes
  pub integer-written : integer_bytes (to_z w32 (little a b c d)) ≡ a ∷ b ∷ c ∷ d ∷ []
  integer-written =
      let same : of_z w32 (to_z w32 (little a b c d)) ≡ little a b c d = of_z-to_z w32 (little a b c d) (omega arith) in
      rw (same, digit-0, digit-1, digit-2, digit-3) refl

  pub integer-fits : Int32 (to_z w32 (little a b c d))
  integer-fits = int32-of (little a b c d) (omega arith)
