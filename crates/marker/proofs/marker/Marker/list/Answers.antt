-- A walk in vain: the effort is above the ceiling, or more rulings were found than there are rows; every row is filled with the empty ruling.
use Rattle.std.proofs.Common.{◌≡◌, ℕ, ◌<◌, false, List, length, get_or, Some, refl, ap, ◌∙◌, inl, inr, arith}
use Rattle.rulings.specs.Rulings.{has}
use Rattle.rulings.specs.declared.ruling.Ruling.{Ruling}
use Rattle.semantics.specs.Meaning.{Meaning}
use Rattle.semantics.specs.Chapters.{Fit}
use Rattle.answers.specs.declared.fault.Refusal.{Refusal}
use Rattle.answers.specs.declared.fault.Layer.TheVariants as layer
use Rattle.answers.specs.declared.fault.Fault.{Fault}
use Rattle.answers.specs.Faults.{fault_of}
use Rattle.answers.specs.declared.listing.Listing.{Listing}
use Rattle.marker.specs.Listing.{AllEmpty, NoneWide, TriedInVain}
use Rattle.chapters.specs.Table.{chapter_of}
use Rattle.marker.specs.Walk.{Walked, InVain}
use Rattle.marker.proofs.marker.Marker.list.Goals as goal

filled_empty : (found rows left : List Ruling) (e : Ruling) → ((a : ℕ) → has e a ≡ false) → length rows ≡ length found → length left ≡ length rows →
    ((k : ℕ) (d : Ruling) → k < length rows → e ≡ e → get_or left k d ≡ e) → AllEmpty found left
filled_empty found rows left e empty long same each = (same ∙ long, λ i d h a. ap (λ (r : Ruling). has r a) (each i d (omega arith) refl) ∙ empty a)

-- a walk in vain is a listing tried in vain
tried_in_vain : (m : Meaning) (ch : ℕ → ℕ) (found rows : List Ruling) (l : Listing) (why : Refusal) (f : Fault) → Fit m ch → NoneWide m ch → Walked m ch found l rows →
    f ≡ fault_of layer.Marker why → InVain l (length rows) (Some why) → TriedInVain m ch (length found) f
tried_in_vain m ch found rows l why f fit narrow walked is (inl (e, over)) =
    let (effort, counts, above) = walked.past over in (fit, narrow, (effort, counts, inl (is ∙ ap (fault_of layer.Marker) e, above)))
tried_in_vain m ch found rows l why f fit narrow walked is (inr (e, within, more)) =
    (fit, narrow, (l.effort, walked.spent within, inr (is ∙ ap (fault_of layer.Marker) e, within, walked.more within (omega (arith, walked.as_long)))))

pub returns-in-Some : goal.returns-in-Some
returns-in-Some g c =
    let s = c.args.self.now in
    inr (
      tried_in_vain (g.B.Book.meaning s.book) (chapter_of s.chapters) c.args.rows.now c.walk-listing.new.rows c.walk-listing.result c.in-Some.refusal
          c.new.result c.in_ok-refuse_upward_readings.ensures.ok c.in_ok-refuse_wide_chapters.ensures.ok c.walk-listing.ensures c.new.ensures c.in-Some.ensures,
      filled_empty c.args.rows.now c.walk-listing.new.rows c.fill.new.self c.empty.result c.empty.ensures c.walk-listing.ensures.as_long
          c.fill.ensures.len c.fill.ensures.clones,
    )
