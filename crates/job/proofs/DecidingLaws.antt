-- The decision: a number is a kind's, a client's, or nobody's.
-- To cite: decides_kind, decides_unknown, decides_client.
use Rattle.std.proofs.Common.{◌≡◌, ℕ, ◌<◌, List, refl, arith}
use Rattle.std.specs.Prelude.{Err}
use Rattle.answer.specs.declared.Refusal.TheVariants.{UnknownKind}
use Rattle.answer.specs.Answers.{number}
use Rattle.records.specs.Record.{Clients}
use Rattle.kinds.specs.declared.Deed.{Deed}
use Rattle.kinds.specs.Kinds.{Held, Kind, kind_number, Unknown, deed, skipped, TellsOf}
use Rattle.kinds.proofs.KindsLaws.{kind_low}
use Rattle.kinds.proofs.ToldLaws.{told_11}
use Rattle.job.specs.Deciding.{Decides}

module _ (kind : ℕ) (h : Held) (p s : List ℕ) (room : ℕ) (d : Deed) (work' : List ℕ) where
  pub decides_kind : (k : Kind) (s' : List ℕ) → kind ≡ kind_number k → TellsOf (kind_number k) h p s room d s' work' → Decides kind h p s room d s' work'
  decides_kind k s' e told = rw e ((λ z. absurd (omega (arith, kind_low k))), (λ z. told))

  pub decides_unknown : kind < 32768 → Unknown kind → d ≡ deed h (number {A = Unit {0}} (Err UnknownKind)) 0 0 → Decides kind h p s room d s work'
  decides_unknown below u is = ((λ z. absurd (omega arith)), (λ z. told_11 h p s room work' d kind u is))

  pub decides_client : Clients kind → d ≡ skipped h → Decides kind h p s room d s work'
  decides_client above is = ((λ z. (is, refl)), (λ z. absurd (z above)))
