-- What is denied is denied for one reason only, and what is answered is not denied.
use Rattle.std.proofs.Common.{◌≡◌, ℕ, ◌<◌, ◌≤◌, List, length, sym, ap, ◌∙◌, inl, inr, ⊎_elim, arith}
use Rattle.std.proofs.lemmas.Bool.{cases_order}
use Rattle.rulings.specs.Rulings.{has}
use Rattle.rulings.specs.declared.ruling.Ruling.{Ruling}
use Rattle.semantics.specs.Meaning.{Meaning}
use Rattle.semantics.specs.Chapters.{Fit}
use Rattle.semantics.specs.Listing.{AllInRowOrder, Effort, AllPartsStable}
use Rattle.semantics.proofs.Tests.{false_is_not_true}
use Rattle.semantics.proofs.Ways.{effort_unique, one_listing}
use Rattle.answers.specs.declared.fault.Refusal.TheVariants.{StrayMark}
use Rattle.answers.specs.declared.fault.Layer.TheVariants as layer
use Rattle.answers.specs.declared.fault.Fault.{Fault}
use Rattle.answers.specs.Faults.{fault_of}
use Rattle.books.specs.Faults.{one_lowest}
use Rattle.answers.specs.Checks.{stray}
use Rattle.chapters.proofs.Upward.{upward_once, fitting}
use Rattle.marker.specs.Judging.{NoStray, StrayDenied}
use Rattle.marker.specs.Listing.{NoneWide, WideDenied, NotTried, TriedInVain}
use Rattle.runs.specs.Law.{ByChapterDenied, ListingDenied}

pub stray_once : (m : Meaning) (y : Ruling) (f f' : Fault) → StrayDenied m y f → StrayDenied m y f' → f ≡ f'
stray_once m y f f' (s, e, low) (s', e', low') =
    e ∙ ap (λ (n : ℕ). fault_of layer.Marker (StrayMark n)) (one_lowest (stray m.size (has y)) s s' low low') ∙ sym e'

pub not_stray : {A : Type 0} (m : Meaning) (y : Ruling) (f : Fault) → NoStray m y → StrayDenied m y f → A
not_stray m y f none (s, e, low) = false_is_not_true (sym (none s) ∙ low.0)

-- there is one lowest chapter that is too wide
wide_once : (m : Meaning) (ch : ℕ → ℕ) (f f' : Fault) → WideDenied m ch f → WideDenied m ch f' → f ≡ f'
wide_once m ch f f' (k, e, low, wide, below) (k', e', low', wide', below') =
    ⊎_elim
    (λ (q : k ≡ k'). cc)
    (⊎_elim
    (λ (l : k < k'). absurd (omega (arith, below' k l)))
    (λ (l : k' < k). absurd (omega (arith, below k' l))))
    (cases_order k k')

narrow : {A : Type 0} (m : Meaning) (ch : ℕ → ℕ) (f : Fault) → NoneWide m ch → WideDenied m ch f → A
narrow m ch f none (k, e, low, wide, below) = absurd (omega (arith, none k low))

pub by_chapter_once : (m : Meaning) (ch : ℕ → ℕ) (y : Ruling) (f f' : Fault) → ByChapterDenied m ch y f → ByChapterDenied m ch y f' → f ≡ f'
by_chapter_once m ch y f f' (inl s) (inl s') = stray_once m y f f' s s'
by_chapter_once m ch y f f' (inl s) (inr u') = not_stray m y f u'.0 s
by_chapter_once m ch y f f' (inr u) (inl s') = not_stray m y f' u.0 s'
by_chapter_once m ch y f f' (inr u) (inr u') = upward_once m ch f f' u.1 u'.1

pub not_by_chapter : {A : Type 0} (m : Meaning) (ch : ℕ → ℕ) (y : Ruling) (f : Fault) → NoStray m y → Fit m ch → ByChapterDenied m ch y f → A
not_by_chapter m ch y f none fit (inl s) = not_stray m y f none s
not_by_chapter m ch y f none fit (inr u) = fitting m ch f fit u.1

-- nothing that was tried is denied before trying
tried : {A : Type 0} (m : Meaning) (ch : ℕ → ℕ) (f : Fault) → Fit m ch → NoneWide m ch → NotTried m ch f → A
tried m ch f fit none (inl u) = fitting m ch f fit u
tried m ch f fit none (inr w) = narrow m ch f none w.1

not_tried_once : (m : Meaning) (ch : ℕ → ℕ) (f f' : Fault) → NotTried m ch f → NotTried m ch f' → f ≡ f'
not_tried_once m ch f f' (inl u) (inl u') = upward_once m ch f f' u u'
not_tried_once m ch f f' (inl u) (inr w') = fitting m ch f w'.0 u
not_tried_once m ch f f' (inr w) (inl u') = fitting m ch f' w.0 u'
not_tried_once m ch f f' (inr w) (inr w') = wide_once m ch f f' w.1 w'.1

in_vain_once : (m : Meaning) (ch : ℕ → ℕ) (n : ℕ) (f f' : Fault) → TriedInVain m ch n f → TriedInVain m ch n f' → f ≡ f'
in_vain_once m ch n f f' (fit, none, (e, effort, inl w)) (fit', none', (e', effort', inl w')) = w.0 ∙ sym w'.0
in_vain_once m ch n f f' (fit, none, (e, effort, inl w)) (fit', none', (e', effort', inr w')) =
    absurd (omega (arith, effort_unique m ch e e' effort effort', w.1, w'.1))
in_vain_once m ch n f f' (fit, none, (e, effort, inr w)) (fit', none', (e', effort', inl w')) =
    absurd (omega (arith, effort_unique m ch e e' effort effort', w.1, w'.1))
in_vain_once m ch n f f' (fit, none, (e, effort, inr w)) (fit', none', (e', effort', inr w')) = w.0 ∙ sym w'.0

pub listing_once : (m : Meaning) (ch : ℕ → ℕ) (n : ℕ) (f f' : Fault) → ListingDenied m ch n f → ListingDenied m ch n f' → f ≡ f'
listing_once m ch n f f' (inl d) (inl d') = not_tried_once m ch f f' d d'
listing_once m ch n f f' (inl d) (inr v') = tried m ch f v'.0 v'.1 d
listing_once m ch n f f' (inr v) (inl d') = tried m ch f' v.0 v.1 d'
listing_once m ch n f f' (inr v) (inr v') = in_vain_once m ch n f f' v v'

-- a listing that was given is not denied: the effort is one number, and so is the number of rows
pub not_listing : {A : Type 0} (m : Meaning) (ch : ℕ → ℕ) (n : ℕ) (f : Fault) (rows : List Ruling) (effort : ℕ) → Fit m ch → NoneWide m ch → Effort m ch effort → effort ≤ 65536 →
    length rows ≤ n → AllInRowOrder (AllPartsStable m ch) rows → ListingDenied m ch n f → A
not_listing m ch n f rows effort fit none counted within room all (inl d) = tried m ch f fit none d
not_listing m ch n f rows effort fit none counted within room all (inr (_, _, (e, counted', inl w))) =
    absurd (omega (arith, effort_unique m ch effort e counted counted', w.1))
not_listing m ch n f rows effort fit none counted within room all (inr (_, _, (e, counted', inr (_, _, (more, all', long))))) =
    absurd (omega (arith, ap length (one_listing all all')))
