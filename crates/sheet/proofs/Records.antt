-- The records of a part, as a list of arrays. Assumes nothing.
use Rattle.std.proofs.Common.{◌≡◌, ℕ, zero, suc, ◌+◌, ◌*◌, ◌/◌, ◌<◌, List, [], length, get_or, take, drop, ap, ◌∙◌, arith, suc-mul, not-suc-le-zero}
use Rattle.std.proofs.Math.Seq.{drop-drop}
use Rattle.std.specs.Simd.{first_chunks}
use Rattle.scan.specs.Scan.{chunk}

chunk-at : (size count i : ℕ) (xs : List ℕ) → i < count → get_or (first_chunks size count xs) i [] ≡ chunk size i xs
chunk-at size zero i xs h = absurd (not-suc-le-zero h)
chunk-at size (suc count) zero xs h = let none : 0 ≡ 0 * size = omega arith in ap (λ n. take size (drop n xs)) none
chunk-at size (suc count) (suc i) xs h =
    let more : size + i * size ≡ suc i * size = omega (arith, suc-mul i size) in
    chunk-at size count i (drop size xs) (omega arith) ∙ ap (take size) (drop-drop (i * size) size xs ∙ ap (λ n. drop n xs) more)

-- the record at an index, as `as_chunks` gives it
pub record-at : (size i : ℕ) (xs : List ℕ) (records : List (List ℕ)) → records ≡ first_chunks size (length xs / size) xs → i < length xs / size
    → get_or records i [] ≡ chunk size i xs
record-at size i xs records whole h = ap (λ rs. get_or rs i []) whole ∙ chunk-at size (length xs / size) i xs h
