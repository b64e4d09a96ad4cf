-- LOSSES: none, one or two columns, and what it is to repair them (document 01, demand 2). Definitions only.
use Rattle.std.specs.Prelude.{◌≡◌, ◌⊎◌, List, ℕ, zero, suc, ◌≤◌, ◌<◌, length, get_or}
use Rattle.shape.specs.declared.Shape.{Shape}
use Rattle.shape.specs.Place.{byte}
use Rattle.rule.specs.declared.Losses.{Losses}
use Rattle.rule.specs.declared.Losses.TheVariants.{None, One, Two}
use Rattle.rule.specs.Rule.{Obeys}

-- the losses that a count and two numbers name; of a count over 2 both
unfoldable pub named : ℕ → ℕ → ℕ → Losses
named zero a b = None
named (suc zero) a b = One a
named (suc (suc more)) a b = Two a b

-- "none lost", "one lost", "two lost": column c is named lost
abbrev pub Lost : Losses → ℕ → Type 0
Lost None c = ⊥
Lost (One a) c = c ≡ a
Lost (Two a b) c = (c ≡ a) ⊎ (c ≡ b)

-- a column named lost is n or more
abbrev pub Beyond : ℕ → Losses → Type 0
Beyond n None = ⊥
Beyond n (One a) = n ≤ a
Beyond n (Two a b) = (n ≤ a) ⊎ (n ≤ b)

-- "both lost columns are the same"
abbrev pub Twice : Losses → Type 0
Twice None = ⊥
Twice (One a) = ⊥
Twice (Two a b) = a ≡ b

-- x agrees with the survivors of s: each byte of each column that is not lost is the same
pub record Agrees (sh : Shape) (lost : Losses) (s x : List ℕ) : Type 0 where
  pub same : (d c t : ℕ) → d < sh.m → c < sh.n → t < sh.w → ¬ Lost lost c → byte sh x t d c ≡ byte sh s t d c

-- x holds bytes
abbrev pub Bytes : List ℕ → Type 0
Bytes x = (i : ℕ) → i < length x → get_or x i 0 < 256

-- x is a stripe of bytes, as long as s, "that obeys the rule and agrees with the survivors"
pub record Solves (sh : Shape) (lost : Losses) (s x : List ℕ) : Type 0 where
  pub long : length x ≡ length s
  pub bytes : Bytes x
  pub obeys : Obeys sh x
  pub agrees : Agrees sh lost s x

-- "survivors disagree": "there is no such stripe"
abbrev pub Disagrees : Shape → Losses → List ℕ → Type 0
Disagrees sh lost s = (x : List ℕ) → ¬ Solves sh lost s x
