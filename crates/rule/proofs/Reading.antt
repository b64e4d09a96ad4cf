-- Laws of losses: what is decided of them, and their one reading as first, second and walk.
-- To cite: lost?, beyond?, twice?; reading_order, reading_lost, reading_used.
use mathlib.Core.Path.{◌≡◌, refl, sym, ◌∙◌}
use mathlib.Core.Logic.{◌↔◌, ◌≢◌, Ne-symm, ◌⊎◌, inl, inr, ⊎_elim, ⊎_swap}
use mathlib.Core.Bool.{Bool, true, false}
use Prim.Native.Nat.{ℕ, ◌+◌, ◌*◌, ◌≤◌, ◌<◌}
use native.Mathlib.Omega.{arith}
use native.Mathlib.Decide.{dec_le, dec_lt, ℕ_discrete}
use Rattle.shape.specs.Step.{left, right}
use Rattle.answer.proofs.OutcomeLaws.{either?}
use Rattle.rule.specs.declared.Losses.{Losses}
use Rattle.rule.specs.declared.Losses.TheVariants.{None, One, Two}
use Rattle.rule.specs.Losses.{Lost, Beyond, Twice}
use Rattle.rule.specs.Outer.{walk, first, second, reading, Used}
use Rattle.rule.proofs.OrderLaws.{Ordered, order, walk_reach, walk_pos}
use Rattle.rule.proofs.Solve.{Order, Pair, side_column, side_chain}

-- ---- decisions

pub lost? : (lost : Losses) (c : ℕ) → Dec (Lost lost c)
lost? None c = no (λ z. z)
lost? (One a) c = ℕ_discrete c a
lost? (Two a b) c = either? (ℕ_discrete c a) (ℕ_discrete c b)

pub beyond? : (n : ℕ) (lost : Losses) → Dec (Beyond n lost)
beyond? n None = no (λ z. z)
beyond? n (One a) = dec_le n a
beyond? n (Two a b) = either? (dec_le n a) (dec_le n b)

pub twice? : (lost : Losses) → Dec (Twice lost)
twice? None = no (λ z. z)
twice? (One a) = no (λ z. z)
twice? (Two a b) = ℕ_discrete a b

-- ---- one reading

-- chain p is a side's, for some height
abbrev pub Sided : ℕ → ℕ → ℕ → ℕ → ℕ → Type 0
Sided m n f g p = (side : Bool) × (d : ℕ) × (side_column f g side < n) × (d < m) × (p ≡ side_chain n f g side d)

-- of the two that are not beyond
pub both_lt : (n a b : ℕ) → ¬ ((n ≤ a) ⊎ (n ≤ b)) → (a < n) × (b < n)
both_lt n a b fit = (at (dec_lt a n) inl, at (dec_lt b n) inr)
  where
    at : {x : ℕ} → Dec (x < n) → (n ≤ x → (n ≤ a) ⊎ (n ≤ b)) → x < n
    at (yes h) f = h
    at (no h) f = absurd (fit (f (omega arith)))

pair_of : (m n a b f g : ℕ) → 4 * m ≤ n + 3 → a < n → b < n → a ≢ b → Ordered n a b f g → Pair m n f g (walk n f g)
pair_of m n a b f g wide ha hb ne (p, q, short) = rw (p, q) record {
  wide = wide;
  first_lt = ha;
  second_lt = hb;
  near = walk_pos n a b ha hb ne;
  short = short;
  walk = walk_reach n a b ha hb;
}

pub two_order : (m n a b : ℕ) → 4 * m ≤ n + 3 → ¬ Beyond n (Two a b) → a ≢ b → Pair m n (first n a b) (second n a b) (walk n (first n a b) (second n a b))
two_order m n a b wide fit ne =
    let (ha, hb) = both_lt n a b fit in
    ⊎_elim (pair_of m n a b _ _ wide ha hb ne) (pair_of m n b a _ _ wide hb ha (Ne-symm ne)) (order n a b ha hb ne)

module _ (m n : ℕ) (wide : 4 * m ≤ n + 3) (lost : Losses) (fit : ¬ Beyond n lost) (apart : ¬ Twice lost) where
  pub reading_order : Order m n (reading m n lost).0 (reading m n lost).1 (reading m n lost).2
  reading_order = at lost fit apart
    where
      at : (lost : Losses) → ¬ Beyond n lost → ¬ Twice lost → Order m n (reading m n lost).0 (reading m n lost).1 (reading m n lost).2
      at None fit apart = inl (refl, refl)
      at (One c) fit apart = inl (refl, refl)
      at (Two a b) fit apart = inr (two_order m n a b wide fit apart)

  -- the lost columns are first and second
  pub reading_lost : (c : ℕ) → c < n → Lost lost c ↔ ((c ≡ (reading m n lost).0) ⊎ (c ≡ (reading m n lost).1))
  reading_lost = at lost fit apart
    where
      pair : (a b f g c : ℕ) → Ordered n a b f g → ((c ≡ a) ⊎ (c ≡ b)) ↔ ((c ≡ f) ⊎ (c ≡ g))
      pair a b f g c (p, q, short) = (
        ⊎_elim (λ z. inl (z ∙ sym p)) (λ z. inr (z ∙ sym q)),
        ⊎_elim (λ z. inl (z ∙ p)) (λ z. inr (z ∙ q)),
      )

      turned : (a b f g c : ℕ) → Ordered n b a f g → ((c ≡ a) ⊎ (c ≡ b)) ↔ ((c ≡ f) ⊎ (c ≡ g))
      turned a b f g c o = let z = pair b a f g c o in ((λ l. z.0 (⊎_swap l)), (λ l. ⊎_swap (z.1 l)))

      at : (lost : Losses) → ¬ Beyond n lost → ¬ Twice lost → (c : ℕ) → c < n → Lost lost c ↔ ((c ≡ (reading m n lost).0) ⊎ (c ≡ (reading m n lost).1))
      at None fit apart c hc = ((λ z. absurd z), ⊎_elim (λ e. omega arith) (λ e. omega arith))
      at (One a) fit apart c hc = (inl, ⊎_elim (λ e. e) (λ e. absurd (omega arith)))
      at (Two a b) fit apart c hc =
          let (ha, hb) = both_lt n a b fit in
          ⊎_elim (pair a b _ _ c) (turned a b _ _ c) (order n a b ha hb apart)

  -- the chains that are used are those of the two sides
  pub reading_used : (p : ℕ) → Used m n lost p ↔ Sided m n (reading m n lost).0 (reading m n lost).1 p
  reading_used = at lost fit apart
    where
      at : (lost : Losses) → ¬ Beyond n lost → ¬ Twice lost → (p : ℕ) → Used m n lost p ↔ Sided m n (reading m n lost).0 (reading m n lost).1 p
      at None fit apart p = ((λ z. absurd z), none)
        where
          none : Sided m n n n p → ⊥
          none (false, d, h, hd, e) = omega arith
          none (true, d, h, hd, e) = omega arith
      at (One c) fit apart p = ((λ u. (false, u.0, omega arith, u.1, u.2)), one)
        where
          one : Sided m n c n p → Used m n (One c) p
          one (false, d, h, hd, e) = (d, hd, e)
          one (true, d, h, hd, e) = absurd (omega arith)
      at (Two a b) fit apart p = ((λ u. two u.0 u.1 u.2), back)
        where
          lt : (side : Bool) → side_column (first n a b) (second n a b) side < n
          lt false = (two_order m n a b wide fit apart).first_lt
          lt true = (two_order m n a b wide fit apart).second_lt

          two : (d : ℕ) → d < m → (p ≡ left n (first n a b) d) ⊎ (p ≡ right n (second n a b) d) → Sided m n (first n a b) (second n a b) p
          two d hd (inl e) = (false, d, lt false, hd, e)
          two d hd (inr e) = (true, d, lt true, hd, e)

          back : Sided m n (first n a b) (second n a b) p → Used m n (Two a b) p
          back (false, d, h, hd, e) = (d, hd, inl e)
          back (true, d, h, hd, e) = (d, hd, inr e)
