-- Refusals: their numbers, their words and the places that they name. The numbers of layers, and faults.
use Rattle.std.specs.Prelude.{ℕ, List, Some, None, codes, Option}
use Rattle.answers.specs.declared.fault.Refusal.{Refusal}
use Rattle.answers.specs.declared.fault.Refusal.TheVariants.{BadSize, NoSuchPoint, StrayMark, NoSupportersHere, BookFull, NothingEntered, NoSuchChapter, ReadsUpward, ChapterTooWide, TooMuchToTry, ListTooShort, InputTooLong, ReplyTooShort, UnknownRecord, CutRecord}
use Rattle.answers.specs.declared.fault.Layer.{Layer}
use Rattle.answers.specs.declared.fault.Layer.TheVariants.{Book, Marker, Reader}
use Rattle.answers.specs.declared.fault.Fault.{Fault}

-- the number of a refusal
abbrev pub number : Refusal → ℕ
number BadSize = 1
number (NoSuchPoint a) = 2
number (StrayMark a) = 3
number (NoSupportersHere a) = 4
number BookFull = 5
number (NothingEntered a) = 6
number (NoSuchChapter a) = 7
number (ReadsUpward a b) = 8
number (ChapterTooWide k) = 9
number TooMuchToTry = 10
number ListTooShort = 11
number InputTooLong = 12
number ReplyTooShort = 13
number UnknownRecord = 14
number CutRecord = 15

-- the word for a refusal, in ASCII
abbrev pub word : Refusal → List ℕ
word BadSize = codes "bad size"
word (NoSuchPoint a) = codes "no such point"
word (StrayMark a) = codes "stray mark"
word (NoSupportersHere a) = codes "no supporters here"
word BookFull = codes "book full"
word (NothingEntered a) = codes "nothing entered"
word (NoSuchChapter a) = codes "no such chapter"
word (ReadsUpward a b) = codes "reads upward"
word (ChapterTooWide k) = codes "chapter too wide"
word TooMuchToTry = codes "too much to try"
word ListTooShort = codes "list too short"
word InputTooLong = codes "input too long"
word ReplyTooShort = codes "reply too short"
word UnknownRecord = codes "unknown record"
word CutRecord = codes "cut record"

-- the places that a refusal names, none, one or two
abbrev pub places : Refusal → Option ℕ × Option ℕ
places BadSize = (None, None)
places (NoSuchPoint a) = (Some a, None)
places (StrayMark a) = (Some a, None)
places (NoSupportersHere a) = (Some a, None)
places BookFull = (None, None)
places (NothingEntered a) = (Some a, None)
places (NoSuchChapter a) = (Some a, None)
places (ReadsUpward a b) = (Some a, Some b)
places (ChapterTooWide k) = (Some k, None)
places TooMuchToTry = (None, None)
places ListTooShort = (None, None)
places InputTooLong = (None, None)
places ReplyTooShort = (None, None)
places UnknownRecord = (None, None)
places CutRecord = (None, None)

-- the number of a layer
abbrev pub layer_number : Layer → ℕ
layer_number Book = 1
layer_number Marker = 2
layer_number Reader = 3

-- the fault by which a layer denies with a refusal
abbrev pub fault_of : Layer → Refusal → Fault
fault_of l r = record { refusal = r; layer = l }
