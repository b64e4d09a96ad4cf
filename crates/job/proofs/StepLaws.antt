-- Laws of a step of the job program: one outcome, whatever the workspace held, and some; a refused record changes nothing; each of the program's
-- refusals is given whatever those behind it say; a line for each record that is not skipped.
-- To cite: step_one, step_some, made of stepped_end, stepped_broken, stepped_client and stepped_known; step_refused; step_12, step_11, step_14, step_13;
-- step_shown, step_hidden.
use Rattle.std.proofs.Common.{◌≡◌, ℕ, ◌+◌, ◌<◌, true, false, ◌≢◌, ◌⊎◌, List, length, sym, refl, ap, ◌∙◌, inl, inr, arith}
use native.Mathlib.Decide.{dec_le, dec_lt, ℕ_discrete}
use Rattle.std.specs.Prelude.{Option, None, Some, is_some}
use Rattle.answer.specs.Answers.{First}
use Rattle.answer.proofs.AnswersLaws.{first_one}
use Rattle.answer.proofs.OutcomeLaws.{either?}
use Rattle.rebuild.specs.Rebuild.{Cleared}
use Rattle.records.specs.Record.{counted, kind_of, payload, Unframed, Clients}
use Rattle.line.specs.declared.Line.{Line}
use Rattle.kinds.specs.declared.Told.{Told}
use Rattle.kinds.specs.declared.Deed.{Deed}
use Rattle.kinds.specs.Kinds.{Kind, kind_number, Unknown, Early, Wrong, Of, job_table, deed, skipped, Does, TellsOf}
use Rattle.kinds.proofs.BufferLaws.{cleared_one, cleared_some}
use Rattle.kinds.proofs.KindsLaws.{kind_low, job_11, job_14, job_13}
use Rattle.kinds.proofs.DoesLaws.{told_number, tells_one, tells_some, tells_refused, tells_shown}
use Rattle.job.specs.declared.State.{State}
use Rattle.job.specs.declared.Turn.{Turn}
use Rattle.job.specs.Step.{next, line_of, answer_on, step_of, stopped, ended, Stepped}

-- the line says what is told, and there is one if anything is
answer_of_line : (number kind : ℕ) (t : Option Told) → answer_on (line_of number kind t) ≡ told_number t
answer_of_line number kind None = refl
answer_of_line number kind (Some t) = refl

line_if_told : (number kind : ℕ) (t : Option Told) → is_some (line_of number kind t) ≡ is_some t
line_if_told number kind None = refl
line_if_told number kind (Some t) = refl

unframed? : (input : List ℕ) → Dec (Unframed input)
unframed? input = either? (dec_lt (length input) 2) (either? (dec_lt (counted input) 2) (either? (dec_lt 4100 (counted input)) (dec_lt (length input) (2 + counted input))))

module _ (st : State) (input s : List ℕ) (room : ℕ) where
  -- ---- one

  pub step_one : (r q : Turn) (x y u v : List ℕ) → Stepped st input s room r x u → Stepped st input s room q y v → (r ≡ q) × (x ≡ y) × (u ≡ v)
  step_one r q x y u v a b =
      let (e, f) = at (ℕ_discrete (length input) 0) (unframed? input) (dec_le 32768 (kind_of input)) in (e, f, cleared_one room u v a.cleared b.cleared)
    where
      at : Dec (length input ≡ 0) → Dec (Unframed input) → Dec (Clients (kind_of input)) → (r ≡ q) × (x ≡ y)
      at (yes z) framed client = let (e, f) = a.end z in let (g, h) = b.end z in (e ∙ sym g, f ∙ sym h)
      at (no z) (yes w) client = let (e, f) = a.broken (omega arith) w in let (g, h) = b.broken (omega arith) w in (e ∙ sym g, f ∙ sym h)
      at (no z) (no w) (yes c) = let (e, f) = a.client w c in let (g, h) = b.client w c in (e ∙ sym g, f ∙ sym h)
      at (no z) (no w) (no c) =
          let (d, t, e) = a.known w c in let (d₂, t₂, g) = b.known w c in
          let (k, l) = tells_one (payload input) s room (kind_of input) st.held d d₂ x y u v t t₂ in
          (e ∙ ap (λ (d : Deed). step_of st (kind_of input) d (2 + counted input)) k ∙ sym g, l)

  -- ---- some: a step made of what it comes to

  module _ (u : List ℕ) (clear : Cleared room u) where
    pub stepped_end : length input ≡ 0 → Stepped st input s room (ended st) s u
    stepped_end z = record {
      end = λ e. (refl, refl);
      broken = λ l. absurd (omega arith);
      client = λ n. absurd (n (inl (omega arith)));
      known = λ n. absurd (n (inl (omega arith)));
      cleared = clear;
    }

    pub stepped_broken : 0 < length input → Unframed input → Stepped st input s room (stopped st (length input)) s u
    stepped_broken l w = record {
      end = λ e. absurd (omega arith);
      broken = λ l w. (refl, refl);
      client = λ n. absurd (n w);
      known = λ n. absurd (n w);
      cleared = clear;
    }

    -- a record that the input holds whole is not at its end
    held_whole : ¬ Unframed input → length input ≢ 0
    held_whole n e = n (inl (omega arith))

    pub stepped_client : ¬ Unframed input → Clients (kind_of input)
        → Stepped st input s room (step_of st (kind_of input) (skipped st.held) (2 + counted input)) s u
    stepped_client n c = record {
      end = λ e. absurd (held_whole n e);
      broken = λ l w. absurd (n w);
      client = λ n c. (refl, refl);
      known = λ n o. absurd (o c);
      cleared = clear;
    }

    pub stepped_known : ¬ Unframed input → ¬ Clients (kind_of input)
        → (d : Deed) (s' : List ℕ) → TellsOf (kind_of input) st.held (payload input) s room d s' u
        → Stepped st input s room (step_of st (kind_of input) d (2 + counted input)) s' u
    stepped_known n o d s' t = record {
      end = λ e. absurd (held_whole n e);
      broken = λ l w. absurd (n w);
      client = λ n c. absurd (o c);
      known = λ n o. (d, t, refl);
      cleared = clear;
    }

  pub step_some : (r : Turn) × (s' work' : List ℕ) × Stepped st input s room r s' work'
  step_some = let (w, clear) = cleared_some room in at w clear (ℕ_discrete (length input) 0) (unframed? input) (dec_le 32768 (kind_of input))
    where
      at : (w : List ℕ) → Cleared room w → Dec (length input ≡ 0) → Dec (Unframed input) → Dec (Clients (kind_of input))
          → (r : Turn) × (s' work' : List ℕ) × Stepped st input s room r s' work'
      at w clear (yes z) framed client = (_, s, w, stepped_end w clear z)
      at w clear (no z) (yes u) client = (_, s, w, stepped_broken w clear (omega arith) u)
      at w clear (no z) (no u) (yes c) = (_, s, w, stepped_client w clear u c)
      at w clear (no z) (no u) (no c) =
          let (d, s', t) = tells_some (payload input) s room (kind_of input) st.held w clear in (_, s', w, stepped_known w clear u c d s' t)

  -- ---- refused

  module _ (r : Turn) (x u : List ℕ) (step : Stepped st input s room r x u) where
    -- the shape held and the buffer stay
    pub step_refused : answer_on r.line ≢ 0 → (r.state.held ≡ st.held) × (x ≡ s)
    unfolding step_of stopped ended
    step_refused n = at (ℕ_discrete (length input) 0) (unframed? input) (dec_le 32768 (kind_of input))
      where
        held : (q : Turn) → r ≡ q → r.state.held ≡ q.state.held
        held q e = ap (λ (r : Turn). r.state.held) e

        at : Dec (length input ≡ 0) → Dec (Unframed input) → Dec (Clients (kind_of input)) → (r.state.held ≡ st.held) × (x ≡ s)
        at (yes z) framed client = let (e, f) = step.end z in (held _ e, f)
        at (no z) (yes w) client = let (e, f) = step.broken (omega arith) w in (held _ e, f)
        at (no z) (no w) (yes c) = let (e, f) = step.client w c in (held _ e, f)
        at (no z) (no w) (no c) =
            let (d, t, e) = step.known w c in
            let (k, l) = tells_refused (payload input) s room (kind_of input) st.held d x u t (λ z. n (ap (λ (r : Turn). answer_on r.line) e ∙ answer_of_line (next st.records) (kind_of input) d.told ∙ z)) in
            (held _ e ∙ k, l)

    -- ---- the program's own refusals, each by its row

    refused_by : (k : ℕ) → k ≢ 0 → ¬ Unframed input → ¬ Clients (kind_of input) → First (job_table st.held (kind_of input) (payload input)) k
        → answer_on r.line ≡ k
    unfolding step_of
    refused_by k n w c f = let (d, (j, g, t), e) = step.known w c in ap (λ (r : Turn). answer_on r.line) e ∙ answer_of_line (next st.records) (kind_of input) d.told ∙ at j d g t
      where
        at : (j : ℕ) (d : Deed) → First (job_table st.held (kind_of input) (payload input)) j
            → ((j ≢ 0) × (d ≡ deed st.held j 0 0) × (x ≡ s)) ⊎ ((j ≡ 0) × Of (kind_of input) (λ k. Does k st.held (payload input) s room d x u)) → told_number d.told ≡ k
        at j d g (inl t) = ap (λ (d : Deed). told_number d.told) t.1 ∙ first_one (job_table st.held (kind_of input) (payload input)) j k g f
        at j d g (inr t) = absurd (n (first_one (job_table st.held (kind_of input) (payload input)) k j f g ∙ t.0))

    pub step_12 : 0 < length input → Unframed input → ((l : Line) × (r.line ≡ Some l) × (l.answer ≡ 12) × (l.kind ≡ 0)) × (r.stops ≡ true)
    unfolding stopped
    step_12 l w = let e = (step.broken l w).0 in ((_, ap (λ (r : Turn). r.line) e, refl, refl), ap (λ (r : Turn). r.stops) e)

    pub step_11 : ¬ Unframed input → ¬ Clients (kind_of input) → Unknown (kind_of input) → answer_on r.line ≡ 11
    step_11 w c z = refused_by 11 (omega arith) w c (job_11 st.held (kind_of input) (payload input) z)

    module _ (w : ¬ Unframed input) (k : Kind) (is : kind_of input ≡ kind_number k) where
      known : ¬ Clients (kind_of input)
      known c = omega (arith, kind_low k)

      pub step_14 : Early k st.held → answer_on r.line ≡ 14
      step_14 z = refused_by 14 (omega arith) w known (job_14 st.held (kind_of input) (payload input) k is z)

      pub step_13 : ¬ Early k st.held → Wrong k (payload input) → answer_on r.line ≡ 13
      step_13 n z = refused_by 13 (omega arith) w known (job_13 st.held (kind_of input) (payload input) k is n z)

    -- ---- a line for each record but a client's, and none at the end

    pub step_hidden : (length input ≡ 0) ⊎ ((¬ Unframed input) × Clients (kind_of input)) → is_some r.line ≡ false
    unfolding step_of ended
    step_hidden (inl z) = ap (λ (r : Turn). is_some r.line) (step.end z).0
    step_hidden (inr z) = ap (λ (r : Turn). is_some r.line) (step.client z.0 z.1).0

    pub step_shown : 0 < length input → Unframed input ⊎ (¬ Clients (kind_of input)) → is_some r.line ≡ true
    unfolding step_of stopped
    step_shown l (inl w) = ap (λ (r : Turn). is_some r.line) (step.broken l w).0
    step_shown l (inr c) = at (unframed? input)
      where
        at : Dec (Unframed input) → is_some r.line ≡ true
        at (yes w) = ap (λ (r : Turn). is_some r.line) (step.broken l w).0
        at (no w) =
            let (d, t, e) = step.known w c in
            ap (λ (r : Turn). is_some r.line) e ∙ line_if_told (next st.records) (kind_of input) d.told ∙ tells_shown (payload input) s room (kind_of input) st.held d x u t
