-- Denied listings said four side by side, each with what it leaves in the rows: it is the same as in two parts.
use Rattle.std.proofs.Common.{◌≡◌, ℕ, ◌<◌, ◌≤◌, ◌⊎◌, List, length, Err, inl, inr}
use Rattle.rulings.specs.declared.ruling.Ruling.{Ruling}
use Rattle.semantics.specs.Meaning.{Meaning}
use Rattle.semantics.specs.Chapters.{Fit}
use Rattle.semantics.specs.Listing.{Effort}
use Rattle.answers.specs.declared.fault.Refusal.TheVariants.{TooMuchToTry, ListTooShort}
use Rattle.answers.specs.declared.fault.Layer.TheVariants as layer
use Rattle.answers.specs.declared.fault.Fault.{Fault}
use Rattle.answers.specs.Faults.{fault_of}
use Rattle.chapters.specs.Fitting.{UpwardDenied}
use Rattle.marker.specs.Listing.{NoneWide, WideDenied, AllEmpty, MoreStable, Listed}

-- in this order: chapters that do not fit, a chapter too wide (rows as found); too much to try, list too short (every row empty)
abbrev pub DeniedSideBySide : Meaning → (ℕ → ℕ) → List Ruling → Fault → List Ruling → Type 0
DeniedSideBySide m ch found f left =
    (UpwardDenied m ch f × (left ≡ found))
    ⊎ ((Fit m ch × WideDenied m ch f × (left ≡ found))
    ⊎ ((Fit m ch × NoneWide m ch × (f ≡ fault_of layer.Marker TooMuchToTry) × ((e : ℕ) × Effort m ch e × (65536 < e)) × AllEmpty found left)
    ⊎ (Fit m ch × NoneWide m ch × (f ≡ fault_of layer.Marker ListTooShort) × ((e : ℕ) × Effort m ch e × (e ≤ 65536)) × MoreStable m ch (length found) × AllEmpty found left)))

module _ (m : Meaning) (ch : ℕ → ℕ) (found : List Ruling) (f : Fault) (left : List Ruling) where
  pub listed_denied : Listed m ch found (Err f) left → DeniedSideBySide m ch found f left
  listed_denied (inl (inl upward, same)) = inl (upward, same)
  listed_denied (inl (inr (fit, wide), same)) = inr (inl (fit, wide, same))
  listed_denied (inr ((fit, narrow, (e, counts, inl (is, over))), empty)) = inr (inr (inl (fit, narrow, is, (e, counts, over), empty)))
  listed_denied (inr ((fit, narrow, (e, counts, inr (is, within, more))), empty)) = inr (inr (inr (fit, narrow, is, (e, counts, within), more, empty)))

  pub denied_in_parts : DeniedSideBySide m ch found f left → Listed m ch found (Err f) left
  denied_in_parts (inl (upward, same)) = inl (inl upward, same)
  denied_in_parts (inr (inl (fit, wide, same))) = inl (inr (fit, wide), same)
  denied_in_parts (inr (inr (inl (fit, narrow, is, (e, counts, over), empty)))) = inr ((fit, narrow, (e, counts, inl (is, over))), empty)
  denied_in_parts (inr (inr (inr (fit, narrow, is, (e, counts, within), more, empty)))) = inr ((fit, narrow, (e, counts, inr (is, within, more))), empty)
