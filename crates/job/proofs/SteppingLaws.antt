-- A step: at the end of the input, at a record that is none, and at any other.
-- To cite: framed, payload_is, step_ended, step_stopped, step_framed.
use Rattle.std.proofs.Common.{◌≡◌, ℕ, ◌+◌, ◌-◌, ◌<◌, ◌≤◌, ◌≢◌, List, length, take, drop, sym, ap, ◌∙◌, subst, inl, inr, arith}
use Rattle.rebuild.specs.Rebuild.{Cleared}
use Rattle.records.specs.Record.{counted, kind_of, payload, Unframed}
use Rattle.kinds.specs.declared.Deed.{Deed}
use Rattle.job.specs.declared.State.{State}
use Rattle.job.specs.declared.Turn.{Turn}
use Rattle.job.specs.Step.{step_of, stopped, ended, Stepped}
use Rattle.job.specs.Deciding.{Decides}
use Rattle.job.proofs.StepLaws.{stepped_end, stepped_broken}

module _ (input : List ℕ) where
  -- a whole record stands there
  pub framed : ¬ Unframed input → (2 ≤ counted input) × (2 + counted input ≤ length input)
  framed u =
      let few : ¬ (counted input < 2) = λ z. u (inr (inl z)) in
      let cut : ¬ (length input < 2 + counted input) = λ z. u (inr (inr (inr z))) in
      (omega (arith, few), omega (arith, cut))

  -- its payload as the code takes it
  pub payload_is : (after : ℕ) → after ≡ 2 + counted input → take (after - 4) (drop 4 input) ≡ payload input
  unfolding payload
  payload_is after e = let long : after - 4 ≡ counted input - 2 = omega (arith, e) in ap (λ (k : ℕ). take k (drop 4 input)) long

module _ (st : State) (input s : List ℕ) (room : ℕ) (r : Turn) (clear : List ℕ) (zero : Cleared room clear) where
  pub step_ended : length input ≡ 0 → r ≡ ended st → Stepped st input s room r s clear
  step_ended none is = subst (λ (q : Turn). Stepped st input s room q s clear) (sym is) (stepped_end st input s room clear zero none)

  module _ (some : length input ≢ 0) where
    pub step_stopped : Unframed input → r ≡ stopped st (length input) → Stepped st input s room r s clear
    step_stopped u is = subst (λ (q : Turn). Stepped st input s room q s clear) (sym is) (stepped_broken st input s room clear zero (omega arith) u)

    pub step_framed : ¬ Unframed input → (kind after : ℕ) (p s' : List ℕ) (d : Deed) → kind ≡ kind_of input → after ≡ 2 + counted input → p ≡ payload input
        → Decides kind st.held p s room d s' clear → r ≡ step_of st kind d after → Stepped st input s room r s' clear
    step_framed u kind after p s' d ek ea ep decides is =
        let made : r ≡ step_of st (kind_of input) d (2 + counted input) = rw (sym ek, sym ea) is in
        let decided : Decides (kind_of input) st.held (payload input) s room d s' clear = rw (sym ek, sym ep) decides in record {
          end = λ e. absurd (some e);
          broken = λ more z. absurd (u z);
          client = λ f z. (made ∙ ap (λ (x : Deed). step_of st (kind_of input) x (2 + counted input)) (decided.0 z).0, (decided.0 z).1);
          known = λ f z. (d, decided.1 z, made);
          cleared = zero;
        }
