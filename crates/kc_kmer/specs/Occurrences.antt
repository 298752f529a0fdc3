-- Where a word occurs in reads, and how often.
-- Source: the k-mers of a read and their counts, Marçais and Kingsford 2011; usable bases, the Jellyfish user guide.
use Rattle.std.specs.Prelude.{ℕ, Bool, true, false, ◌+◌, ◌-◌, ◌&&◌, nat_le, List, length, map, take, drop}
use Rattle.std.specs.Prelude.{slice_index, Option, None, Some, if◌then◌else◌, sum_by, count_by}
use Rattle.std.specs.List.{list_all, filter_map, flat_map, range_with_len}
use Rattle.std.specs.Option.{option_map, option_map_or, option_and_then}
use Rattle.std.specs.Char.{to_ascii_uppercase}
use Rattle.std.specs.Str.{bytes_eq}
use Rattle.kc_fastx.specs.Reads.{Read}
use Rattle.kc_kmer.specs.Letter.{is_base}
use Rattle.kc_kmer.specs.Word.{number, form}
use Rattle.kc_kmer.specs.Rule.{CountingRule, is_listed}

-- whether the quality byte of base j is at least the floor; true for a read without qualities
abbrev pub passes_floor : ℕ → Option (List ℕ) → ℕ → Bool
passes_floor floor None j = true
passes_floor floor (Some quals) j = nat_le floor (slice_index quals j)

-- whether base j is one of ACGTacgt and passes the floor
unfoldable pub is_usable : CountingRule → Read → ℕ → Bool
is_usable rule read j = is_base (to_ascii_uppercase (slice_index read.bases j)) && passes_floor rule.floor read.quals j

-- the word at position p: the k bases from p on, in upper case, if the read has them and all are usable
unfoldable pub word_at : CountingRule → Read → ℕ → Option (List ℕ)
word_at rule read p =
    if nat_le (p + rule.k) (length read.bases) && list_all (λ j. is_usable rule read j) (range_with_len p rule.k)
    then Some (map to_ascii_uppercase (take rule.k (drop p read.bases)))
    else None

-- the form of the word at position p
unfoldable pub form_at : CountingRule → Read → ℕ → Option (List ℕ)
form_at rule read p = option_map (form rule.both) (word_at rule read p)

-- the word if it is listed, otherwise None
abbrev pub where_listed : Option (List ℕ) → List ℕ → Option (List ℕ)
where_listed only word = if is_listed only (number word) then Some word else None

-- the form under which position p counts, if it counts; with a list, only listed words count
unfoldable pub counted_at : CountingRule → Read → ℕ → Option (List ℕ)
counted_at rule read p = option_and_then (where_listed rule.only) (form_at rule read p)

-- how many positions n bases have: words of k bases begin at 0 to n - k
abbrev pub position_count : ℕ → ℕ → ℕ
position_count k n = n + 1 - k

-- the positions of a read
abbrev pub positions : CountingRule → Read → List ℕ
positions rule read = range_with_len 0 (position_count rule.k (length read.bases))

-- whether position p counts under this word
abbrev pub counts_under : CountingRule → Read → List ℕ → ℕ → Bool
counts_under rule read word p = option_map_or (λ found. bytes_eq found word) (counted_at rule read p) false

-- the occurrences of a word in a read: how many of its positions count under the word
unfoldable pub occurrences_in : CountingRule → Read → List ℕ → ℕ
occurrences_in rule read word = count_by (λ p. counts_under rule read word p) (positions rule read)

-- the occurrences of a word: how many positions of all reads count under it
unfoldable pub occurrences : CountingRule → List Read → List ℕ → ℕ
occurrences rule reads word = sum_by (λ read. occurrences_in rule read word) reads

-- the numbers of the words of a read, in the forms under which they count, in the order of their positions
unfoldable pub words_in : CountingRule → Read → List ℕ
words_in rule read = filter_map (λ p. option_map number (counted_at rule read p)) (positions rule read)

-- the same for all reads, in order
unfoldable pub words_of : CountingRule → List Read → List ℕ
words_of rule reads = flat_map (λ read. words_in rule read) reads
