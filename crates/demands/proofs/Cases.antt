-- P1 to P11 and the cases beyond them, each by computing.
use mathlib.Core.Path.{◌≡◌, refl}
use mathlib.Core.Logic.{inl, inr}
use mathlib.Core.List.{[], ◌∷◌}
use Prim.Native.Nat.{ℕ}
use native.Mathlib.Omega.{arith}
use lib.ListN.{replicate}
use lib.Count.{ones}
use Rattle.xor.specs.Xor.{◌⊕◌, xors}
use Rattle.xor.specs.Total.{total}
use Rattle.xor.proofs.XorLaws.{⊕_laws}
use Rattle.std.specs.Prelude.{Ok, Err}
use Rattle.answer.specs.declared.Refusal.TheVariants.{NoSuchStock}
use Rattle.shape.specs.Good.{size, Good, shape}
use Rattle.shape.specs.Place.{row, slot, place, byte}
use Rattle.shape.specs.Step.{left, right}
use Rattle.answer.specs.Answers.{refusal_number, number}
use Rattle.stock.specs.Prices.{encode_price, one_price, two_price, symbols_read}
use Rattle.stock.specs.Stock.{stock, stock_table}
use Rattle.shape.proofs.GoodLaws.{shape_2, shape_3, shape_done}
use Rattle.rule.specs.Rule.{others, chain, differs, mark}
use Rattle.rule.specs.Outer.{walk, first}
use Rattle.checking.specs.Check.{some, count, breaks, broken_chains, differing_bits}
use Rattle.demands.specs.Cases.{Case, Holds, xor_at, chains_with, cases, CasesHold}
use Rattle.demands.proofs.Five.{p5, p6, p7, p8, store₉, store₁₀, counted, counts₅, find₉, find₁₀}
use Rattle.demands.proofs.Read.{fills₅, chooses₅, hands_out₅}
use Rattle.demands.proofs.Session.{session_prints, refusals_print}

-- ---- P1 to P4, P11: chains, shapes, prices

regroup : (e a b c d : ℕ) → e ⊕ (0 ⊕ (b ⊕ c) ⊕ (a ⊕ d)) ≡ e ⊕ (a ⊕ (b ⊕ (c ⊕ (d ⊕ 0))))
regroup e a b c d = simp ⊕_laws

p1 : Holds (Case.chain_of 3 9 2 ((2, 2) ∷ (0, 0) ∷ (1, 1) ∷ (1, 3) ∷ (0, 4) ∷ []))
unfolding chain others xors left right xor_at
p1 X = regroup (X 0 2) (X 2 0) (X 1 1) (X 1 3) (X 2 4)

p2 : Holds (Case.chains_at 3 9 0 0 (2 ∷ 7 ∷ [])) × Holds (Case.chains_at 3 9 1 0 (1 ∷ 8 ∷ []))
unfolding others xors left right mark chains_with ◌⊕◌
p2 = (refl, refl)

p3 : Holds (Case.any_w 2 4 2) × Holds (Case.good_w 2 5)
unfolding size
p3 = (
  (λ w. shape_2 (shape 2 4 w) (omega arith) (inl (omega arith))),
  λ w h. (shape_done (shape 2 5 w)).0 (record { m_fits = omega arith; n_fits = omega arith; w_fits = h; all_fits = omega (arith, h.1) }),
)

p4 : Holds (Case.any_w 16 60 2) × Holds (Case.one_w 16 61 67 0) × Holds (Case.one_w 16 61 68 3)
unfolding size
p4 = (
  (λ w. shape_2 (shape 16 60 w) (omega arith) (inl (omega arith))),
  (shape_done (shape 16 61 67)).0 (record { m_fits = omega arith; n_fits = omega arith; w_fits = omega arith; all_fits = omega arith }),
  shape_3 (shape 16 61 68) (omega arith) (omega arith) (inr (omega arith)),
)

p11 : Holds (Case.costs 3 9 27 9 18 11)
unfolding number encode_price one_price two_price symbols_read
p11 w g = record { answer = (shape_done (shape 3 9 w)).0 g; refused = λ ne. absurd (ne refl); done = λ e. refl }

-- ---- beyond the paper: ties, two bytes, stock

ties : Holds (Case.is_first 6 0 3 0) × Holds (Case.is_first 6 3 0 0)
unfolding first walk
ties = (refl, refl)

good₂ : Good (shape 2 5 2)
unfolding size
good₂ = record { m_fits = omega arith; n_fits = omega arith; w_fits = omega arith; all_fits = omega arith }

count₂ : Holds (Case.counts (shape 2 5 2) (0 ∷ 3 ∷ replicate 18 0) 2 4)
unfolding size place slot row byte left right chain others xors ◌⊕◌ differs some count total breaks broken_chains differing_bits ones
count₂ = counted (shape 2 5 2) good₂ (0 ∷ 3 ∷ replicate 18 0) refl 2 4 refl

stocks : Holds (Case.stocks 2 (Ok (shape 3 9 512))) × Holds (Case.stocks 10 (Err NoSuchStock))
unfolding number refusal_number stock stock_table
stocks = (
  record { answer = inr ((λ z. omega arith), refl); refused = λ ne. absurd (ne refl); done = λ e. refl },
  record { answer = inl (omega arith, refl); refused = λ ne. refl; done = λ e. absurd (omega arith) },
)

-- ---- all of them, in the list's order

pub cases_hold : CasesHold
unfolding cases
cases_hold = (
  p1,
  (
    p2.0,
    (
      p2.1,
      (
        p3.0,
        (
          p3.1,
          (
            p4.0,
            (
              p4.1,
              (
                p4.2,
                (
                  p5,
                  (
                    p6,
                    (
                      p7.0,
                      (
                        p7.1,
                        (
                          p7.2,
                          (
                            p8,
                            (
                              store₉,
                              (
                                counts₅.0,
                                (
                                  find₉,
                                  (
                                    store₁₀,
                                    (
                                      counts₅.1,
                                      (
                                        find₁₀,
                                        (
                                          p11,
                                          (
                                            ties.0,
                                            (
                                              ties.1,
                                              (
                                                counts₅.2,
                                                (
                                                  count₂,
                                                  (fills₅.0, (fills₅.1, (fills₅.2, (chooses₅.0, (chooses₅.1, (chooses₅.2, (hands_out₅.0, (hands_out₅.1, (stocks.0, (stocks.1, (session_prints, (refusals_print.0, (refusals_print.1, (refusals_print.2, (refusals_print.3, (refusals_print.4, tt)))))))))))))))),
                                                ),
                                              ),
                                            ),
                                          ),
                                        ),
                                      ),
                                    ),
                                  ),
                                ),
                              ),
                            ),
                          ),
                        ),
                      ),
                    ),
                  ),
                ),
              ),
            ),
          ),
        ),
      ),
    ),
  ),
)
