-- What the rule of a sheet, and the two ways to compare entries, mean in numbers and lists. They are this project's
-- own.
use Rattle.std.specs.Prelude.{◌≡◌, ℕ, ◌≤◌, List, length, count_by, Contains}
use Rattle.std.specs.List.Sorted.{IsPermutation}
use Rattle.kc_word.specs.Cutting.{NumberedPieces, is_same_batch}
use Rattle.kc_share.specs.declared.entry.Entry.{Entry}
use Rattle.kc_share.specs.declared.entry.Plan.{Plan}
use Rattle.kc_share.specs.declared.entry.View.{View}
use Rattle.kc_share.specs.Entries.{word_total, AreSame, AreAmong}
use Rattle.kc_share.specs.Rule.{booked_entries, kept_entries, IsSheet}

-- how many of the entries are of this batch, by value
abbrev pub times : NumberedPieces → List Entry → ℕ
times batch entries = count_by (λ entry. is_same_batch entry.batch batch) entries

-- On a sheet, the bookings into a stripe, over all views, have as many words and entries as are kept for it, and each
-- batch was booked as often as it is kept.
abbrev pub AddsUp : Type 0
AddsUp =
    (plan : Plan) (views : List View) (stripe : ℕ) → IsSheet plan views
    → (word_total (booked_entries stripe views) ≡ word_total (kept_entries stripe views))
    × (length (booked_entries stripe views) ≡ length (kept_entries stripe views))
    × ((batch : NumberedPieces) → times batch (booked_entries stripe views) ≡ times batch (kept_entries stripe views))

-- lists with the same entries, each as often, are permutations of each other
abbrev pub SameInSomeOrder : Type 0
SameInSomeOrder = (entries others : List Entry) → AreSame entries others → IsPermutation entries others

-- entries that are among others are in the others' list, and have no more words or entries
abbrev pub AmongIsThere : Type 0
AmongIsThere =
    (entries others : List Entry) → AreAmong entries others
    → ((entry : Entry) → Contains entries entry → Contains others entry)
    × (word_total entries ≤ word_total others)
    × (length entries ≤ length others)
