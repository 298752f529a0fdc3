-- The words of a list, line by line.
use Rattle.std.proofs.Common.{◌≡◌, ◌<◌, ℕ, List, [], ◌∷◌, ◌++◌, length, map, refl, sym, ap, ◌∙◌, arith}
use Rattle.std.proofs.Common.{append_assoc, true, false, Bool}
use Rattle.std.specs.Prelude.{Ok}
use Rattle.std.specs.Str.Lossy.{utf8_lossy}
use Rattle.kc_fastx.specs.Lines.{Line, lines}
use Rattle.kc_gzip.specs.Intakes.{Ended, Filled, Fills, Unread}
use Rattle.kc_gzip.proofs.IntakesLemmas.{filled_both}
use Rattle.kc_io.specs.Sources.{Seen}
use Rattle.kc_report.specs.WordList.{filled, words_in}

blank_left : (line : Line) (more : List Line) → length line ≡ 0 → filled (line ∷ more) ≡ filled more
blank_left [] more none = refl
blank_left (b ∷ bs) more none = absurd (omega (arith, none))

filled_kept : (line : Line) (more : List Line) → 0 < length line → filled (line ∷ more) ≡ line ∷ filled more
filled_kept [] more some = absurd (omega (arith, some))
filled_kept (b ∷ bs) more some = refl

-- a blank line is no word
pub words_blank : {all : List (List ℕ)} (words : List (List ℕ)) (rest line behind : List ℕ)
    → words ++ words_in rest ≡ all → lines rest ≡ line ∷ lines behind → length line ≡ 0
    → words ++ words_in behind ≡ all
words_blank words rest line behind before is none =
    ap (λ v. words ++ map utf8_lossy v) (sym (ap filled is ∙ blank_left line (lines behind) none)) ∙ before

-- another line is the next word
pub words_next : {all : List (List ℕ)} (words : List (List ℕ)) (rest line behind : List ℕ)
    → words ++ words_in rest ≡ all → lines rest ≡ line ∷ lines behind → 0 < length line
    → (words ++ utf8_lossy line ∷ []) ++ words_in behind ≡ all
words_next words rest line behind before is some =
    append_assoc words (utf8_lossy line ∷ []) (words_in behind)
    ∙ ap (λ v. words ++ map utf8_lossy v) (sym (ap filled is ∙ filled_kept line (lines behind) some)) ∙ before

-- a block more came
pub block_came : {old mid new : Seen} {first before after : Unread} (came : Bool) → Filled old mid first before
    → came ≡ true → Fills mid new before after (Ok came)
    → Filled old new first after × (after.room < before.room)
block_came true so_far is fills = let room = fills.0.room in let some = fills.1 in
    (filled_both so_far fills.0, omega (arith, room, some))
block_came false so_far is fills = absurd (let wrong : false ≡ true = is in cc)

-- none came
pub end_came : {old mid new : Seen} {first before after : Unread} (came : Bool) → Filled old mid first before
    → came ≡ false → Fills mid new before after (Ok came) → Filled old new first after × Ended after
end_came true so_far is fills = absurd (let wrong : true ≡ false = is in cc)
end_came false so_far is fills = (filled_both so_far fills.0, fills.2)
