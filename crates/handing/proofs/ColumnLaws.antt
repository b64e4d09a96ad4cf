-- Laws of a column handed out: one part, and some.
use mathlib.Core.Path.{◌≡◌, refl, sym, ◌∙◌}
use mathlib.Core.List.{List, []}
use Prim.Native.Nat.{ℕ}
use native.Mathlib.Omega.{arith}
use native.Mathlib.Decide.{dec_le}
use Rattle.shape.specs.declared.Shape.{Shape}
use Rattle.std.specs.Prelude.{Err}
use Rattle.answer.specs.declared.Refusal.TheVariants.{NoSuchPlace}
use Rattle.answer.specs.Answers.{refusal_number, number, Rises}
use Rattle.shape.specs.Refusals.{shape_table, stripe_table}
use Rattle.answer.proofs.OutcomeLaws.{part_one, part_some}
use Rattle.shape.proofs.Ready.{stripe_ready_rest}
use Rattle.handing.specs.Column.{column_table, ColumnRead}

module _ (sh : Shape) (s : List ℕ) (c : ℕ) where
  pub column_rises : Rises 0 (column_table sh s c)
  unfolding shape_table stripe_table column_table
  column_rises = omega arith

  pub column_one : (x y : List ℕ) → ColumnRead sh s c x → ColumnRead sh s c y → x ≡ y
  column_one = part_one (λ h x y u v. u ∙ sym v)

  pub column_some : (x : List ℕ) × ColumnRead sh s c x
  unfolding number refusal_number column_table
  column_some = part_some {T = column_table sh s c} [] _ (stripe_ready_rest sh s _ (λ g e. ((Err NoSuchPlace), refl, dec_le sh.n c, λ p. tt))) (λ h. (_, refl))
