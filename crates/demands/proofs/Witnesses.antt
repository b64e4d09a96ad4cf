-- The witnesses: the calls on the small stripes that are proved already, and what follows from their contracts by the demands themselves.
use mathlib.Core.Path.{◌≡◌, refl, sym, ap, ◌∙◌}
use mathlib.Core.Logic.{◌≢◌, inl, inr}
use mathlib.Core.List.{List, [], ◌∷◌}
use Prim.Native.Nat.{ℕ, zero, suc}
use native.Mathlib.Omega.{arith}
use lib.ListN.{length, get_or}
use Rattle.std.specs.Prelude.{Some, Ok, Err}
use Rattle.answer.specs.declared.Refusal.TheVariants.{Disagree}
use Rattle.shape.specs.Good.{size, shape}
use Rattle.shape.specs.Place.{height, row, slot, place, byte}
use Rattle.shape.specs.Step.{left, right}
use Rattle.shape.specs.Refusals.{shape_table}
use Rattle.answer.specs.Answers.{Answer, First}
use Rattle.answer.proofs.AnswersLaws.{refused, given, first_lowest}
use Rattle.shape.proofs.GoodLaws.{shape_2, shape_rises}
use Rattle.rule.specs.declared.Losses.TheVariants.{One, Two}
use Rattle.rule.specs.Losses.{Agrees, Solves, Disagrees}
use Rattle.rule.specs.Outer.{walk, first, second, Outer}
use Rattle.rule.proofs.SolvesLaws.{agrees_sym, solves_across, solves_outer}
use Rattle.rebuild.specs.Rebuild.{Rebuild, OtherwiseGood}
use Rattle.job.specs.declared.State.{State}
use Rattle.records.specs.Record.{two_bytes, counted, kind_of, payload}
use Rattle.kinds.specs.Kinds.{Kind, kind_number, named_shape, deed}
use Rattle.job.specs.Step.{next, step_of, Stepped}
use Rattle.kinds.proofs.KindsLaws.{job_0}
use Rattle.job.proofs.StepLaws.{stepped_known, step_some}
use Rattle.demands.specs.Sequences.{OnlyStripe, Step}
use Rattle.demands.specs.Cases.{woven, sh₅, information, parity, stripe₅, lost_0_2, lost_4_0, cleared_0, flipped_0_1, start, after, session}
use Rattle.demands.specs.Witnesses
use Rattle.demands.specs.Witnesses.{dirty, zeros, Done₆, Refused₉, cleared_0_lost_3, only, client_with, clients, world, done_0, refused_1, shape_2_4, SomeStep, stray, of_kind, of_client, Witnessed}
use Rattle.demands.proofs.Demands.{rebuild_exactly}
use Rattle.demands.proofs.Reading.{explains_is_mends}
use Rattle.demands.proofs.Tests.{all, same_test, lost_test, agrees_by}
use Rattle.demands.proofs.Five.{good₅, sound₅, comes_back as comes_back₅, clear, none₅, stays, p6, p7, p8, damaged₉}
use Rattle.demands.proofs.Read.{fit₂, solved₁₀, outer₁₀, fills₅, fill_short, chooses₅, choose_0}
use Rattle.demands.proofs.Session.{framed, seven, session_prints}

-- ---- rebuilds

-- P6, and what its contract says
done₆ : Done₆
done₆ = p6 4 (omega arith)

solved₆ : OtherwiseGood sh₅ (Two 0 2) lost_0_2 4 × Solves sh₅ (Two 0 2) lost_0_2 stripe₅
solved₆ = (rebuild_exactly sh₅ (Two 0 2) lost_0_2 4 (Ok tt) stripe₅ zeros done₆).2 refl

-- column 0 mends P9's stripe, so column 3 does not
refused₉ : Refused₉
refused₉ =
    let (long, bytes, bad, mends) = damaged₉ in
    stays cleared_0 long 3 (omega arith) (none₅ cleared_0 long bad 0 3 (omega arith) (λ e. omega arith) mends) 4 (omega arith)

disagrees₉ : OtherwiseGood sh₅ (One 3) cleared_0 4 × Disagrees sh₅ (One 3) cleared_0
disagrees₉ = (rebuild_exactly sh₅ (One 3) cleared_0 4 (Err Disagree) cleared_0 zeros refused₉).0 refl

disagree : ◌≢◌ {A = Answer} (Err Disagree) (Ok tt)
disagree e = refused (sym e) (given {x = Ok tt} refl)

-- the same survivors and other bytes in the lost columns, which are not looked at
done_too : Rebuild sh₅ (Two 0 2) stripe₅ 4 (Ok tt) stripe₅ zeros
unfolding woven information parity stripe₅ size place slot row byte all same_test lost_test
done_too = comes_back₅ (Two 0 2) stripe₅ stripe₅ sound₅ refl fit₂ (λ z. omega arith) refl 4 (omega arith)

unlike₆ : (lost_0_2 ≢ stripe₅) × (length lost_0_2 ≡ length stripe₅)
unfolding woven information parity stripe₅ lost_0_2
unlike₆ = ((λ e. let z = ap (λ (x : List ℕ). get_or x 0 0) e in omega arith), refl)

unlike₉ : (cleared_0 ≢ cleared_0_lost_3) × (length cleared_0 ≡ length cleared_0_lost_3) × Agrees sh₅ (One 3) cleared_0 cleared_0_lost_3
unfolding woven parity cleared_0 cleared_0_lost_3 size place slot row byte all same_test lost_test
unlike₉ = ((λ e. let z = ap (λ (x : List ℕ). get_or x 6 0) e in omega arith), refl, agrees_by sh₅ (One 3) cleared_0 cleared_0_lost_3 refl)

refused_too : Rebuild sh₅ (One 3) cleared_0_lost_3 4 (Err Disagree) cleared_0_lost_3 zeros
refused_too =
    let (unlike, long, agrees) = unlike₉ in
    let (good, none) = disagrees₉ in
    stays cleared_0_lost_3 (sym long ∙ good.stripe) 3 (omega arith)
    (λ x h. none x (solves_across sh₅ (One 3) cleared_0_lost_3 cleared_0 x (sym long) (agrees_sym sh₅ (One 3) cleared_0 cleared_0_lost_3 agrees) h)) 4 (omega arith)

-- ---- calls

-- stripe 0 alone is another
only_0 : (s x input : List ℕ) (st st' : State) → OnlyStripe 0 st' (client_with s input st) (client_with x input st')
only_0 s x input st st' = record { stripes = at; symbols = refl; answers = refl; inputs = refl; state = refl }
  where
    at : (j : ℕ) → j ≢ 0 → only x j ≡ only s j
    at zero ne = absurd (ne refl)
    at (suc j) ne = refl

step_0 : (z work : List ℕ) → length work ≡ 4 → Step (world lost_0_2 z work) (done_0 z)
step_0 z work long = record { served = (Ok tt, refl, rw long done₆, only_0 lost_0_2 stripe₅ [] start start); others = at }
  where
    at : (d : ℕ) → d ≢ 0 → clients stripe₅ z d ≡ clients lost_0_2 z d
    at zero ne = absurd (ne refl)
    at (suc d) ne = refl

step_1 : (s work : List ℕ) → length work ≡ 4 → Step (world s cleared_0 work) (refused_1 s)
step_1 s work long = record { served = (Err Disagree, refl, rw long refused₉, only_0 cleared_0 cleared_0 [] start start); others = λ d ne. refl }

-- (2,4) is refused
refused_shape : Stepped (after 1) shape_2_4 stripe₅ 4 (step_of (after 1) 1 (deed (Some sh₅) 2 0 0) 8) stripe₅ zeros
unfolding two_bytes counted kind_of payload kind_number named_shape
refused_shape =
    stepped_known (after 1) shape_2_4 stripe₅ 4 zeros (clear 4) (framed shape_2_4 (omega arith)) (λ c. omega arith) (deed (Some sh₅) 2 0 0) stripe₅ (
      0,
      job_0 (Some sh₅) 1 (0x02 ∷ 0x04 ∷ 0x01 ∷ 0x00 ∷ []) Kind.shaping refl (λ z. z) (λ ne. ne refl),
      inr (refl, (Kind.shaping, refl, (2, shape_2 (shape 2 4 1) (omega arith) (inl (omega arith)), inr ((λ z. omega arith), refl, refl)))),
    )

-- ---- DEMAND 1

refused_changes_nothing_meets : Witnesses.RefusedChangesNothingMeets
refused_changes_nothing_meets = (disagree, (Err Disagree, refl, refused₉, only_0 cleared_0 cleared_0 [] start start))

refused_step_meets : Witnesses.RefusedStepMeets
unfolding step_of next
refused_step_meets = (step_of (after 1) 1 (deed (Some sh₅) 2 0 0) 8, (λ e. omega arith), (_, refl, refused_shape, only_0 stripe₅ stripe₅ shape_2_4 (after 1) (after 2)))

zero_after_meets : Witnesses.ZeroAfterMeets
zero_after_meets = ((tt, step_1 lost_0_2 dirty refl), tt, step_0 cleared_0 dirty refl)

-- ---- DEMAND 2

comes_back_meets : Witnesses.ComesBackMeets
comes_back_meets = let (good, sol) = solved₆ in (good, sol.long, sol.bytes, sol.obeys, sol.agrees, done₆)

rebuild_exactly_meets : Witnesses.RebuildExactlyMeets
rebuild_exactly_meets = ((done₆, solved₆.0, solved₆.1), refused₉, disagrees₉.0, disagrees₉.1)

one_stripe_meets : Witnesses.OneStripeMeets
one_stripe_meets = let (good, sol) = solved₆ in (good₅, good.columns, good.apart, good.stripe, sol)

one_explains_meets : Witnesses.OneExplainsMeets
one_explains_meets =
    let (long, bytes, bad, mends) = damaged₉ in
    (good₅, long, bytes, bad, (explains_is_mends sh₅ good₅ cleared_0 long bytes 0 (omega arith)).1 mends)

one_damaged_column_meets : Witnesses.OneDamagedColumnMeets
one_damaged_column_meets = let (long, bytes, bad, mends) = damaged₉ in (good₅, long, bad, mends)

-- ---- DEMAND 3

alone_meets : Witnesses.AloneMeets
alone_meets = ((step_1 lost_0_2 dirty refl, (step_0 cleared_0 zeros refl, tt)), (step_0 flipped_0_1 zeros refl, tt), refl, refl, refl)

as_if_alone_meets : Witnesses.AsIfAloneMeets
as_if_alone_meets = (alone_meets.0, refl, refl)

old_bytes_meets : Witnesses.OldBytesMeets
old_bytes_meets =
    let (unlike, long) = unlike₆ in
    let (unlike₂, long₂, agrees₂) = unlike₉ in
    ((unlike, long, solved₆.1.agrees, done₆, done_too), unlike₂, long₂, agrees₂, refused₉, refused_too)

no_residue_meets : Witnesses.NoResidueMeets
no_residue_meets = ((step_1 lost_0_2 zeros refl, (step_0 cleared_0 zeros refl, tt)), clear 4)

-- ---- the reading of the words

first_is_lowest_meets : Witnesses.FirstIsLowestMeets
first_is_lowest_meets =
    let is : First (shape_table (shape 2 4 1)) 2 = shape_2 (shape 2 4 1) (omega arith) (inl (omega arith)) in
    (shape_rises (shape 2 4 1), is, (first_lowest (shape_table (shape 2 4 1)) 0 (shape_rises (shape 2 4 1)) 2 is).0 (λ e. omega arith))

two_parities_meets : Witnesses.TwoParitiesMeets
unfolding left right height
two_parities_meets = (p8, refl, refl, (λ e. omega arith), (λ e. omega arith))

solved₇ : OtherwiseGood sh₅ (Two 4 0) lost_4_0 4 × Solves sh₅ (Two 4 0) lost_4_0 stripe₅
solved₇ = (rebuild_exactly sh₅ (Two 4 0) lost_4_0 4 (Ok tt) stripe₅ zeros (p7.2 4 (omega arith))).2 refl

outer₇ : Outer sh₅ (Two 4 0) lost_4_0 stripe₅
outer₇ =
    let (good, sol) = solved₇ in solves_outer sh₅ good₅ (Two 4 0) good.columns good.apart lost_4_0 stripe₅ sol

solved_from_meets : Witnesses.SolvedFromMeets
unfolding first second walk
solved_from_meets = (good₅, (solved₁₀, outer₁₀), refl, refl, refl, outer₇)

one_outer_meets : Witnesses.OneOuterMeets
one_outer_meets = let (good, sol) = solved₇ in (good₅, good.columns, good.apart, good.stripe, outer₇)

outer₆ : Outer sh₅ (Two 0 2) lost_0_2 stripe₅
outer₆ = let (good, sol) = solved₆ in solves_outer sh₅ good₅ (Two 0 2) good.columns good.apart lost_0_2 stripe₅ sol

fill_then_choose_meets : Witnesses.FillThenChooseMeets
fill_then_choose_meets = (done₆, fills₅.0, choose_0 0x01 0x12 0xCC 0xDD)

choose_empty_meets : Witnesses.ChooseEmptyMeets
choose_empty_meets = ((choose_0 0xAA 0xBB 0xCC 0xDD, fills₅.0), chooses₅.2, fill_short)

some_step : (input : List ℕ) → SomeStep input
some_step input = step_some start input stripe₅ 4

program_order_meets : Witnesses.ProgramOrderMeets
unfolding two_bytes counted kind_of payload kind_number
program_order_meets = (
  (some_step stray, omega arith, inl (omega arith)),
  (some_step (of_kind 7), framed (of_kind 7) (omega arith), (λ c. omega arith), seven),
  (some_step (of_kind 6), framed (of_kind 6) (omega arith), refl, tt),
  some_step (of_kind 1),
  framed (of_kind 1) (omega arith),
  refl,
  (λ z. z),
  (λ z. omega arith),
)

line_for_each_meets : Witnesses.LineForEachMeets
unfolding two_bytes counted kind_of session
line_for_each_meets = (
  (some_step stray, omega arith, inl (omega arith)),
  (some_step session, omega arith, (λ c. omega arith)),
  some_step [],
  some_step of_client,
  framed of_client (omega arith),
  omega arith,
)

-- ---- all of them

pub witnessed : Witnessed
witnessed = (
  refused_changes_nothing_meets,
  refused_step_meets,
  zero_after_meets,
  comes_back_meets,
  rebuild_exactly_meets,
  one_stripe_meets,
  done₆,
  one_explains_meets,
  one_damaged_column_meets,
  alone_meets,
  as_if_alone_meets,
  old_bytes_meets,
  no_residue_meets,
  first_is_lowest_meets,
  (one_explains_meets, one_damaged_column_meets.3),
  two_parities_meets,
  solved_from_meets,
  one_outer_meets,
  (done₆, outer₆),
  fills₅.0,
  fill_then_choose_meets,
  choose_empty_meets,
  program_order_meets,
  line_for_each_meets,
  session_prints 4 (omega arith),
)
