-- Each theorem takes its witness and comes to its conclusion: what specs/Witnesses.antt lists are the theorem's hypotheses, and all of them. That no
-- hypothesis is left is seen from what is made of each conclusion, which could not be made of a function: an equation turned round, or one of its parts.
use mathlib.Core.Path.{refl, sym}
use mathlib.Core.Logic.{inl, inr}
use mathlib.Core.List.{[], ◌∷◌}
use native.Mathlib.Omega.{arith}
use Rattle.std.specs.Prelude.{Ok, Err}
use Rattle.answer.specs.declared.Refusal.TheVariants.{BadBuffer, Disagree}
use Rattle.shape.specs.Good.{shape}
use Rattle.shape.specs.Refusals.{shape_table}
use Rattle.rule.specs.declared.Losses.TheVariants.{None, One, Two}
use Rattle.kinds.specs.Kinds.{Kind}
use Rattle.demands.specs.Sequences.{rebuild}
use Rattle.demands.specs.Cases.{woven, five, sh₅, stripe₅, lost_0_2, lost_4_0, cleared_0, flipped_0_1, start, after, session, session_lines}
use Rattle.demands.specs.Witnesses.{dirty, zeros, cleared_0_lost_3, client_with, world, done_0, refused_1, both, shape_2_4, lent, filled, stray, of_kind, of_client}
use Rattle.demands.proofs.Demands.{zero_after, comes_back, rebuild_exactly, one_stripe, either_order, one_explains, one_damaged_column, old_bytes}
use Rattle.demands.proofs.Served.{refused_changes_nothing, refused_step}
use Rattle.demands.proofs.Alone.{alone, as_if_alone, no_residue}
use Rattle.demands.proofs.Reading.{first_is_lowest, explains_is_mends, two_parities, solved_from, one_outer, some_outer, fill_is_rebuild, fill_either_order, fill_then_choose, choose_empty, program_order, line_for_each}
use Rattle.demands.proofs.OneAnswer.{one_printout}
use Rattle.demands.proofs.Witnesses.{witnessed}

pub demands_take : Unit {0}
demands_take =
    let (ne, served) = witnessed.0 in
    let z = sym (refused_changes_nothing (rebuild sh₅ (One 3) 0) (client_with cleared_0 [] start) (client_with cleared_0 [] start) dirty zeros (Err Disagree) ne served) in
    let (r, bad, served) = witnessed.1 in
    let z = (refused_step 0 0 0 (client_with stripe₅ shape_2_4 (after 1)) (client_with stripe₅ shape_2_4 (after 2)) dirty zeros r bad served).0 in
    let ((lent, step), lent₂, step₂) = witnessed.2 in
    let z = (zero_after (world lost_0_2 cleared_0 dirty) (refused_1 lost_0_2) lent step).long in
    let z = (zero_after (world lost_0_2 cleared_0 dirty) (done_0 cleared_0) lent₂ step₂).long in
    let (good, long, bytes, obeys, agrees, done) = witnessed.3 in
    let z = (comes_back sh₅ (Two 0 2) stripe₅ lost_0_2 4 good long bytes obeys agrees (Ok tt) stripe₅ zeros done).0 in
    let ((done, good, sol), refused, good₂, none) = witnessed.4 in
    let z = ((rebuild_exactly sh₅ (Two 0 2) lost_0_2 4 (Ok tt) stripe₅ zeros done).3 good stripe₅ sol).0 in
    let z = sym ((rebuild_exactly sh₅ (One 3) cleared_0 4 (Err Disagree) cleared_0 zeros refused).1 good₂ none) in
    let (good, fit, apart, long, sol) = witnessed.5 in
    let z = sym (one_stripe sh₅ good (Two 0 2) fit apart lost_0_2 stripe₅ stripe₅ long sol sol) in
    let z = (either_order sh₅ 0 2 lost_0_2 4 (Ok tt) stripe₅ zeros witnessed.6).cleared in
    let (good, long, bytes, bad, explains) = witnessed.7 in
    let z = sym (one_explains sh₅ good cleared_0 long bytes bad 0 0 (omega arith) (omega arith) explains explains) in
    let (good, long, bad, mends) = witnessed.8 in
    let z = sym (one_damaged_column sh₅ good cleared_0 long bad 0 0 mends mends) in
    let (es, fs, long, own, same) = witnessed.9 in
    let z = (alone 0 (world lost_0_2 cleared_0 dirty) (world lost_0_2 flipped_0_1 zeros) both (done_0 flipped_0_1 ∷ []) es fs long own same).0 in
    let (es, long, own) = witnessed.10 in
    let z = (as_if_alone 0 (world lost_0_2 cleared_0 dirty) (world lost_0_2 flipped_0_1 zeros) both es long own).0 in
    let ((unlike, long, agrees, p, q), unlike₂, long₂, agrees₂, p₂, q₂) = witnessed.11 in
    let z = (old_bytes sh₅ (Two 0 2) lost_0_2 stripe₅ 4 (Ok tt) (Ok tt) stripe₅ stripe₅ zeros zeros long agrees p q).0 in
    let z = ((old_bytes sh₅ (One 3) cleared_0 cleared_0_lost_3 4 (Err Disagree) (Err Disagree) cleared_0 cleared_0_lost_3 zeros zeros long₂ agrees₂ p₂ q₂).2 ne).0 in
    let (es, clean) = witnessed.12 in
    let z = (no_residue (world lost_0_2 cleared_0 zeros) both es clean).long in
    tt

pub readings_take : Unit {0}
readings_take =
    let (rises, is, applies) = witnessed.13 in
    let z = ((first_is_lowest (shape_table (shape 2 4 1)) rises 2 is).1 2 applies).1 in
    let ((good, long, bytes, bad, explains), mends) = witnessed.14 in
    let z = ((explains_is_mends sh₅ good cleared_0 long bytes 0 (omega arith)).0 explains).0 in
    let z = ((explains_is_mends sh₅ good cleared_0 long bytes 0 (omega arith)).1 mends).pairs in
    let (write, is_left, is_right, not_left, not_right) = witnessed.15 in
    let parities = two_parities sh₅ stripe₅ 4 0 (0xFF ∷ []) (woven (five 0x01 0x02 0x04 0x08 0xFF) (five 0xFD 0x05 0x0A 0xFB 0x09)) write in
    let z = sym ((parities 3 0 (omega arith) (omega arith)).0 (inl is_left)) in
    let z = sym ((parities 0 0 (omega arith) (omega arith)).0 (inr is_right)) in
    let z = sym ((parities 1 0 (omega arith) (omega arith)).1 not_left not_right) in
    let (good, (x, one), is_first, is_second, is_walk, two) = witnessed.16 in
    let z = sym ((solved_from sh₅ good flipped_0_1 x 0 0 (omega arith) (omega arith)).0 0 (omega arith) one) in
    let z = ((solved_from sh₅ good lost_4_0 stripe₅ 0 0 (omega arith) (omega arith)).1 4 0 4 0 1 (omega arith) (omega arith) (λ e. omega arith) is_first is_second is_walk two).0 in
    let (good, fit, apart, long, two) = witnessed.17 in
    let z = sym (one_outer sh₅ good (Two 4 0) fit apart lost_4_0 stripe₅ stripe₅ long two two) in
    let z = (some_outer sh₅ good (Two 4 0) fit apart lost_4_0 long).0 in
    let (done, outer) = witnessed.18 in
    let z = sym (fill_is_rebuild sh₅ (Two 0 2) lost_0_2 4 stripe₅ zeros stripe₅ done outer) in
    let z = (fill_either_order sh₅ 0 2 lost_0_2 0 lent (Ok tt) filled witnessed.19).answer in
    let (done, fill, choose) = witnessed.20 in
    let z = sym (fill_then_choose sh₅ lost_0_2 (Two 0 2) 4 stripe₅ zeros 0 lent filled (0x01 ∷ 0x12 ∷ []) done fill choose) in
    let ((part, fill), none, short) = witnessed.21 in
    let z = (choose_empty sh₅ lost_0_2 (Two 0 2) 0 lent (0xAA ∷ 0xBB ∷ []) filled (Ok tt) part fill).0 in
    let z = (choose_empty sh₅ lost_0_2 None 1 (0xAA ∷ []) [] (0xAA ∷ []) (Err BadBuffer) none short).0 refl in
    tt

pub steps_take : Unit {0}
steps_take =
    let (((r, x, u, h), some, bad), ((r₂, x₂, u₂, h₂), whole₂, ours, unknown), ((r₃, x₃, u₃, h₃), whole₃, is, early), (r₄, x₄, u₄, h₄), whole₄, is₄, late, wrong) = witnessed.22 in
    let z = ((program_order start stray stripe₅ 4 r x u h).0 some bad).0 in
    let z = sym ((program_order start (of_kind 7) stripe₅ 4 r₂ x₂ u₂ h₂).1 whole₂ ours unknown) in
    let z = sym (((program_order start (of_kind 6) stripe₅ 4 r₃ x₃ u₃ h₃).2 whole₃ Kind.rebuilding is).0 early) in
    let z = sym (((program_order start (of_kind 1) stripe₅ 4 r₄ x₄ u₄ h₄).2 whole₄ Kind.shaping is₄).1 late wrong) in
    let (((r, x, u, h), some, bad), ((r₂, x₂, u₂, h₂), some₂, ours), (r₃, x₃, u₃, h₃), (r₄, x₄, u₄, h₄), whole₄, theirs) = witnessed.23 in
    let z = sym ((line_for_each start stray stripe₅ 4 r x u h).0 some (inl bad)) in
    let z = sym ((line_for_each start session stripe₅ 4 r₂ x₂ u₂ h₂).0 some₂ (inr ours)) in
    let z = sym ((line_for_each start [] stripe₅ 4 r₃ x₃ u₃ h₃).1 (inl refl)) in
    let z = sym ((line_for_each start of_client stripe₅ 4 r₄ x₄ u₄ h₄).1 (inr (whole₄, theirs))) in
    let z = sym (one_printout start session stripe₅ 4 session_lines session_lines witnessed.24 witnessed.24) in
    tt
