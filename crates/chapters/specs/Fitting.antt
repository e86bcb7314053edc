-- Readings of a higher chapter.
use Rattle.std.specs.Prelude.{◌≡◌, ℕ, ◌<◌, Bool, true, false, ◌&&◌, Some, None, Option, nat_lt}
use Rattle.semantics.specs.Meaning.{Meaning}
use Rattle.semantics.specs.Chapters.{Fit}
use Rattle.answers.specs.declared.fault.Refusal.TheVariants.{ReadsUpward}
use Rattle.answers.specs.declared.fault.Layer.TheVariants as layer
use Rattle.answers.specs.declared.fault.Fault.{Fault}
use Rattle.answers.specs.Faults.{fault_of}

-- point a reads point b, which lies in a higher chapter
abbrev pub upward : Meaning → (ℕ → ℕ) → ℕ → ℕ → Bool
upward m ch a b = m.reads a b && nat_lt (ch a) (ch b)

-- the first upward reading: the lowest point that reads upward, and the lowest that it so reads;
-- nothing exactly where the chapters fit
abbrev pub FirstUpward : Meaning → (ℕ → ℕ) → Option (ℕ × ℕ) → Type 0
FirstUpward m ch None = Fit m ch
FirstUpward m ch (Some (a, b)) =
    (upward m ch a b ≡ true) × ((d : ℕ) → d < b → upward m ch a d ≡ false) × ((c d : ℕ) → c < a → upward m ch c d ≡ false)

-- denied by the marker for chapters that do not fit, with the first upward reading
abbrev pub UpwardDenied : Meaning → (ℕ → ℕ) → Fault → Type 0
UpwardDenied m ch f = (a : ℕ) × (b : ℕ) × (f ≡ fault_of layer.Marker (ReadsUpward a b)) × FirstUpward m ch (Some (a, b))
