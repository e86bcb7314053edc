-- What a verdict says: its number, whether it is stable, its point, and how it is told to others.
use Rattle.std.specs.Prelude.{ℕ, Bool, true, false, List, [], ◌∷◌, Some, None, Option}
use Rattle.std.specs.Option.{unwrap_or}
use Rattle.answers.specs.declared.verdict.Verdict.{Verdict}
use Rattle.answers.specs.declared.verdict.Verdict.TheVariants.{Stable, Unfounded, Missing}

-- the number of a verdict
abbrev pub verdict_number : Verdict → ℕ
verdict_number Stable = 0
verdict_number (Unfounded a) = 1
verdict_number (Missing a) = 2

-- whether a verdict says stable
abbrev pub is_stable : Verdict → Bool
is_stable Stable = true
is_stable (Unfounded a) = false
is_stable (Missing a) = false

-- the point that a verdict names, if it names one
abbrev pub verdict_point : Verdict → Option ℕ
verdict_point Stable = None
verdict_point (Unfounded a) = Some a
verdict_point (Missing a) = Some a

-- a point or a chapter as it is told to others: 255 where there is none
abbrev pub or_255 : Option ℕ → ℕ
or_255 place = unwrap_or place 255

-- a verdict as it is told to others, in three bytes: its number, its point, and the chapter that is named beside it
abbrev pub verdict_told : Verdict → Option ℕ → List ℕ
verdict_told v k = verdict_number v ∷ or_255 (verdict_point v) ∷ or_255 k ∷ []
