-- ONE ANSWER. "For every input, refusals among them, the statement of a public function leaves one possible result and one possible content of each
-- lent buffer": so it is of each exported call, its lent array too. Proofs: proofs/, the same names in small letters.
use Rattle.std.specs.Prelude.{◌≡◌, List, ℕ}
use Rattle.std.specs.Borrow.{Bor}
use Rattle.shape.specs.declared.Shape.{Shape}
use Rattle.rule.specs.declared.Losses.{Losses}
use Rattle.encoding.specs.Encode.{Encode}
use Rattle.writing.specs.Write.{SmallWrite}
use Rattle.storing.specs.Store.{RawStore}
use Rattle.filling.specs.Fill.{Fill}
use Rattle.capi.specs.Told.{Numbered, RebuildTold, CheckTold, LocateTold, PricesTold, StockTold}
use Rattle.capi.specs.Lies.{ColumnTold, ChooseTold}

-- one number and one list
abbrev pub OneTold : (ℕ → List ℕ → Type 0) → Type 0
OneTold Contract = (r q : ℕ) (x y : List ℕ) → Contract r x → Contract q y → (r ≡ q) × (x ≡ y)

abbrev pub OneEncode : Type 0
OneEncode = (sh : Shape) (s : List ℕ) → OneTold (Numbered (Encode sh s))

abbrev pub OneCheck : Type 0
OneCheck = (sh : Shape) (s : List ℕ) → OneTold (CheckTold sh s)

abbrev pub OneLocate : Type 0
OneLocate = (sh : Shape) (s : List ℕ) → OneTold (LocateTold sh s)

abbrev pub OneSmallWrite : Type 0
OneSmallWrite = (sh : Shape) (s : List ℕ) (c r : ℕ) (z : List ℕ) → OneTold (Numbered (SmallWrite sh s c r z))

abbrev pub OneRawStore : Type 0
OneRawStore = (sh : Shape) (s : List ℕ) (c r : ℕ) (z : List ℕ) → OneTold (Numbered (RawStore sh s c r z))

abbrev pub OneFill : Type 0
OneFill = (sh : Shape) (s : List ℕ) (lost : Losses) (c : ℕ) (z : List ℕ) → OneTold (Numbered (Fill sh s lost c z))

-- and the workspace, whatever it held
abbrev pub OneRebuild : Type 0
OneRebuild = (sh : Shape) (lost : Losses) (s : List ℕ) (room r q : ℕ) (x y u v : List ℕ)
    → RebuildTold sh lost s room r x u → RebuildTold sh lost s room q y v → (r ≡ q) × (x ≡ y) × (u ≡ v)

abbrev pub OneColumn : Type 0
OneColumn = (sh : Shape) (s : Bor (List ℕ)) (c : ℕ) (x y : List ℕ) → ColumnTold sh s c x → ColumnTold sh s c y → x ≡ y

abbrev pub OneChoose : Type 0
OneChoose = (sh : Shape) (s : Bor (List ℕ)) (lost : Losses) (c : ℕ) (buffer : Bor (List ℕ)) (x y : List ℕ)
    → ChooseTold sh s lost c buffer x → ChooseTold sh s lost c buffer y → x ≡ y

abbrev pub OnePrices : Type 0
OnePrices = (sh : Shape) → OneTold (PricesTold sh)

abbrev pub OneStock : Type 0
OneStock = (i : ℕ) → OneTold (StockTold i)
