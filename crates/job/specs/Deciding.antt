-- WHO ANSWERS A RECORD: nobody a client's, and its kind any other. Definitions only.
use Rattle.std.specs.Prelude.{◌≡◌, ℕ, List}
use Rattle.records.specs.Record.{Clients}
use Rattle.kinds.specs.declared.Deed.{Deed}
use Rattle.kinds.specs.Kinds.{Held, skipped, TellsOf}

-- what a record of any kind comes to
abbrev pub Decides : ℕ → Held → List ℕ → List ℕ → ℕ → Deed → List ℕ → List ℕ → Type 0
Decides kind h p s room d s' work' =
    (Clients kind → (d ≡ skipped h) × (s' ≡ s)) × (¬ Clients kind → TellsOf kind h p s room d s' work')
