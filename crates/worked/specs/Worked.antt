-- The worked books.
use Rattle.std.specs.Prelude.{◌≡◌, ℕ, [], ◌∷◌, Some}
use Rattle.semantics.specs.Meaning.{Meaning}
use Rattle.answers.specs.declared.fault.Refusal.TheVariants.{ReadsUpward}
use Rattle.answers.specs.declared.fault.Layer.TheVariants as layer
use Rattle.answers.specs.declared.fault.Fault.{Fault}
use Rattle.answers.specs.declared.verdict.Verdict.TheVariants.{Unfounded, Missing}
use Rattle.answers.specs.Faults.{number, places, layer_number, fault_of}
use Rattle.books.specs.Lines.{line}
use Rattle.books.specs.RuleBook.{meaning_of}
use Rattle.books.specs.ProtestBook.{protest_meaning}
use Rattle.marker.specs.State.{book_of, placing}
use Rattle.worked.specs.Books.{OfEach, OfRules, OfProtests, NewOverRules, NewOverProtests, chapters, TablesPlace}
use Rattle.worked.specs.Answers.{GivesListing, RefusesListing, GivesReading, GivesVerdict, GivesVerdictByChapter, GivesAudit}

-- every point in chapter 0
abbrev pub one_chapter : ℕ → ℕ
one_chapter = chapters []

-- 0 if not 1; 1 if not 0; 2 if 0; 3 if 2 and not 1
abbrev pub Example : (Meaning → Type 0) → Type 0
Example = OfRules 4 (line 0 [] (1 ∷ []) ∷ line 1 [] (0 ∷ []) ∷ line 2 (0 ∷ []) [] ∷ line 3 (2 ∷ []) (1 ∷ []) ∷ [])

-- points 0 and 1 in chapter 0, 2 in chapter 1, 3 in chapter 2
abbrev pub example_chapters : ℕ → ℕ
example_chapters = chapters (0 ∷ 0 ∷ 1 ∷ 2 ∷ [])

-- 0 if 1; 1 if 0
abbrev pub Circle : (Meaning → Type 0) → Type 0
Circle = OfRules 2 (line 0 (1 ∷ []) [] ∷ line 1 (0 ∷ []) [] ∷ [])

-- 0 if not 0
abbrev pub Paradox : (Meaning → Type 0) → Type 0
Paradox = OfRules 1 (line 0 [] (0 ∷ []) ∷ [])

-- 0 if 1, and nothing for 1
abbrev pub OneRule : (Meaning → Type 0) → Type 0
OneRule = OfRules 2 (line 0 (1 ∷ []) [] ∷ [])

-- 0 if not 1; 1 if not 0; 2 if 0 and 1
abbrev pub Both : (Meaning → Type 0) → Type 0
Both = OfRules 3 (line 0 [] (1 ∷ []) ∷ line 1 [] (0 ∷ []) ∷ line 2 (0 ∷ 1 ∷ []) [] ∷ [])

-- 0, 1 and 2 are lodged; 0 protests 1, 1 protests 2
abbrev pub Protesting : (Meaning → Type 0) → Type 0
Protesting = OfProtests 3 (0 ∷ 1 ∷ 2 ∷ []) ((0, 1) ∷ (1, 2) ∷ [])

-- refused by the marker: 0 reads upward, namely 1
abbrev pub upward_fault : Fault
upward_fault = fault_of layer.Marker (ReadsUpward 0 1)

pub record Worked : Type 0 where
  -- the chapters written down are those of a marker's table
  pub tables_place : TablesPlace
  -- the example has the stable rulings {1} and {0, 2, 3}; to list them takes 12 tries in its three chapters, and 16 with all points in one
  pub example_lists : Example (λ m. GivesListing m example_chapters ((1 ∷ []) ∷ (0 ∷ 2 ∷ 3 ∷ []) ∷ []) 12)
  pub example_lists_in_one_chapter : Example (λ m. GivesListing m one_chapter ((1 ∷ []) ∷ (0 ∷ 2 ∷ 3 ∷ []) ∷ []) 16)
  -- nothing is sure, and all is possible
  pub example_reads : Example (λ m. GivesReading m example_chapters [] (0 ∷ 1 ∷ 2 ∷ 3 ∷ []))
  -- {0, 2} is missing 3, which lies in chapter 2; {0, 1} is unfounded at 0
  pub example_misses_3 : Example (λ m. GivesVerdict m (0 ∷ 2 ∷ []) (Missing 3))
  pub example_misses_3_in_chapter_2 : Example (λ m. GivesVerdictByChapter m example_chapters (0 ∷ 2 ∷ []) (Missing 3) 2)
  pub example_unfounded : Example (λ m. GivesVerdict m (0 ∷ 1 ∷ []) (Unfounded 0))
  -- two points that support only one another: the empty ruling alone is stable
  pub circle_lists : Circle (λ m. GivesListing m one_chapter ([] ∷ []) 4)
  pub circle_unfounded : Circle (λ m. GivesVerdict m (0 ∷ 1 ∷ []) (Unfounded 0))
  -- a point that stands if it does not: no ruling is stable, and the point is undecided
  pub paradox_lists : Paradox (λ m. GivesListing m one_chapter [] 2)
  pub paradox_reads : Paradox (λ m. GivesReading m one_chapter [] (0 ∷ []))
  -- the verdict of the book read whole names the lowest point, 0; that by chapters, with 1 below 0, the lowest chapter's
  pub one_rule_unfounded : OneRule (λ m. GivesVerdict m (0 ∷ 1 ∷ []) (Unfounded 0))
  pub one_rule_unfounded_by_chapter : OneRule (λ m. GivesVerdictByChapter m (chapters (1 ∷ 0 ∷ [])) (0 ∷ 1 ∷ []) (Unfounded 1) 0)
  -- with the chapters exchanged, 0 reads upward: a listing is refused, and an audit finds the one reading, of a drop of 1
  pub one_rule_refused : OneRule (λ m. RefusesListing m (chapters (0 ∷ 1 ∷ [])) upward_fault)
  pub one_rule_audited : OneRule (λ m. GivesAudit m (chapters (0 ∷ 1 ∷ [])) (record { drop = 1; reader = 0; read = 1 } ∷ []))
  -- the refusal is number 8, of the marker's layer, number 2, and names the places 0 and 1
  pub upward_told : (number upward_fault.refusal ≡ 8) × (layer_number upward_fault.layer ≡ 2) × (places upward_fault.refusal ≡ (Some 0, Some 1))
  -- what needs two points that exclude one another is possible, and in no stable ruling
  pub both_reads : Both (λ m. GivesReading m (chapters (0 ∷ 0 ∷ 1 ∷ [])) [] (0 ∷ 1 ∷ 2 ∷ []))
  pub both_lists : Both (λ m. GivesListing m (chapters (0 ∷ 0 ∷ 1 ∷ [])) ((0 ∷ []) ∷ (1 ∷ []) ∷ []) 8)
  -- 0 stands, so 1 falls, so 2 stands
  pub protesting_reads : Protesting (λ m. GivesReading m one_chapter (0 ∷ 2 ∷ []) (0 ∷ 2 ∷ []))
  -- a new marker over a new book of either sort: the empty ruling alone is stable
  pub new_rules_list : OfEach NewOverRules (λ m. GivesListing (meaning_of (book_of m)) (placing m) ([] ∷ []) 2)
  pub new_protests_list : OfEach NewOverProtests (λ m. GivesListing (protest_meaning (book_of m)) (placing m) ([] ∷ []) 2)
