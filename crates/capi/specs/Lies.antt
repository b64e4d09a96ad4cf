-- WHERE A PART LIES: a program in another language is handed no part, it is told by numbers in a lent array where the part lies. Definitions only.
use Rattle.std.specs.Prelude.{◌≡◌, ◌≢◌, List, [], ◌∷◌, ℕ, length}
use Rattle.std.specs.Borrow.{Bor}
use Rattle.shape.specs.declared.Shape.{Shape}
use Rattle.shape.specs.Own.{PartOf}
use Rattle.rule.specs.declared.Losses.{Losses}
use Rattle.rule.specs.Losses.{Lost}
use Rattle.handing.specs.Handed.{Handed}
use Rattle.filling.specs.HandedBack.{HandedBack}

-- the numbers tell where in s the part r lies: its start, counted from the start of s, and its length; of a part of length 0 they are zeros
pub record Lies (s r : Bor (List ℕ)) (numbers : List ℕ) : Type 0 where
  pub start : ℕ
  pub told : numbers ≡ (start ∷ length r.now ∷ [])
  pub empty : length r.now ≡ 0 → start ≡ 0
  pub own : length r.now ≢ 0 → PartOf s r start

-- the numbers tell where the part r lies: 0 if in the stripe s, 1 if in the answer buffer, then its start there and its length; of a part of
-- length 0 they are zeros
pub record LiesInEither (s : Bor (List ℕ)) (lost : Losses) (wanted : ℕ) (buffer r : Bor (List ℕ)) (numbers : List ℕ) : Type 0 where
  pub which : ℕ
  pub start : ℕ
  pub told : numbers ≡ (which ∷ start ∷ length r.now ∷ [])
  pub empty : length r.now ≡ 0 → (which ≡ 0) × (start ≡ 0)
  pub survives : length r.now ≢ 0 → ¬ Lost lost wanted → (which ≡ 0) × PartOf s r start
  pub gone : length r.now ≢ 0 → Lost lost wanted → (which ≡ 1) × PartOf buffer r start

-- the part that column hands out, and where it lies
pub record ColumnTold (sh : Shape) (s : Bor (List ℕ)) (c : ℕ) (numbers : List ℕ) : Type 0 where
  pub part : Bor (List ℕ)
  pub is : Handed sh s c part
  pub lies : Lies s part numbers

-- the part that choose hands back, and where it lies
pub record ChooseTold (sh : Shape) (s : Bor (List ℕ)) (lost : Losses) (wanted : ℕ) (buffer : Bor (List ℕ)) (numbers : List ℕ) : Type 0 where
  pub part : Bor (List ℕ)
  pub is : HandedBack sh s lost wanted buffer part
  pub lies : LiesInEither s lost wanted buffer part numbers
