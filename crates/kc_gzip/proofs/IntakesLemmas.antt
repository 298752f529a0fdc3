-- The bytes that came from a source since it was first seen, and the effect of one more filling.
use Rattle.std.proofs.Common.{◌≡◌, ℕ, ◌+◌, List, [], ◌++◌, length, refl, sym, ap, subst, ◌∙◌, arith, append_assoc, append-nil}
use Rattle.std.proofs.lemmas.List.{append_cancel_left, length-append}
use Rattle.std.proofs.lemmas.List.Elements.{All-nil}
use Rattle.std.specs.Prelude.{Ok}
use Rattle.kc_io.specs.History.{History, no_history}
use Rattle.kc_io.specs.Sources.{Seen}
use Rattle.kc_gzip.specs.declared.unpacked_intakes.TakeFault.{TakeFault}
use Rattle.kc_gzip.specs.declared.unpacked_intakes.TakeFault.TheVariants.{Memory}
use Rattle.kc_gzip.specs.Following.{says, says_partly}
use Rattle.kc_gzip.specs.Intakes.{HaveCome, AreAll, TakesAll, TakingFails, Unread, nothing_taken, TakenSoFar, Filled, Ended, FillingFails, Skips, block_size}
use Rattle.kc_gzip.proofs.SinceLemmas.{answered-nothing}

pub come_none : HaveCome no_history []
come_none = record {
  front = (says_partly [], refl);
  unfailed = refl;
  asks = record { blocks = All-nil (λ room. room ≡ block_size); few = omega arith };
}

pub taken_none : (s : Seen) (limit : ℕ) → TakenSoFar s s limit (nothing_taken limit) []
taken_none s limit = record {
  answered = answered-nothing s;
  come = come_none;
  are = refl;
  within = omega arith;
}

-- what was taken before a growth was refused
pub taken_in_vain : {start now : Seen} {limit : ℕ} {unread : Unread} {xs : List ℕ} → TakenSoFar start now limit unread xs → TakingFails start now limit Memory
taken_in_vain {unread = unread} so_far = (
  unread.since,
  unread.came,
  so_far.answered,
  (so_far.come, omega (arith, so_far.within, ap length so_far.are)),
)

-- ---- a taking, and then a filling

-- together with what may still come, the bytes that came are the limit
pub fits_came : (limit room : ℕ) (xs came : List ℕ) → xs ≡ came → length xs + room ≡ limit → length came + room ≡ limit
fits_came limit room xs came are fits = omega (arith, fits, ap length are)

pub taken_filled : {start old new : Seen} {limit : ℕ} {before after : Unread} {xs : List ℕ} → TakenSoFar start old limit before xs
    → (filled : Filled old new before after) → length xs + before.room ≡ limit → TakenSoFar start new limit after (xs ++ filled.more)
taken_filled {start} {xs = xs} so_far filled fits = record {
  answered = filled.goes start so_far.answered;
  come = filled.come so_far.come;
  are = ap (λ v. v ++ filled.more) so_far.are ∙ sym filled.came;
  within = let room = filled.room in omega (arith, fits, room, length-append xs filled.more);
}

pub taken_ended : {start now : Seen} {limit : ℕ} {unread : Unread} {xs : List ℕ} → TakenSoFar start now limit unread xs → Ended unread
    → TakesAll start now limit xs
taken_ended {unread = unread} so_far ended = record {
  since = unread.since;
  answered = so_far.answered;
  all = subst (λ v. AreAll unread.since v) (sym so_far.are) ended;
  within = so_far.within;
}

pub taken_fails : {start old : Seen} {limit : ℕ} {before : Unread} {xs : List ℕ} (new : Seen) (why : TakeFault) → TakenSoFar start old limit before xs
    → FillingFails old new before why → length xs + before.room ≡ limit → TakingFails start new limit why
taken_fails {start} {limit = limit} {before} {xs} new why so_far fails fits =
    fails start limit so_far.answered (fits_came limit before.room xs before.came so_far.are fits)

pub taken_skips : {start old : Seen} {limit : ℕ} {before : Unread} {xs : List ℕ} (new : Seen) (count : ℕ) → TakenSoFar start old limit before xs
    → Skips old new before (Ok count) → length xs + before.room ≡ limit → (rest : List ℕ) × (length rest ≡ count) × TakesAll start new limit (xs ++ rest)
taken_skips {start} {limit = limit} {before} {xs} new count so_far skips fits = (
  skips.0,
  skips.1,
  subst (λ v. TakesAll start new limit (v ++ skips.0)) (sym so_far.are) (skips.2 start limit so_far.answered (fits_came limit before.room xs before.came so_far.are fits)),
)

-- ---- fillings one after the other

pub filled_none : (s : Seen) (u : Unread) → Filled s s u u
filled_none s u = record {
  more = [];
  goes = λ start answered. answered;
  come = λ come. come;
  behind = sym (append-nil u.bytes);
  came = sym (append-nil u.came);
  room = omega arith;
}

pub filled_both : {a b c : Seen} {u v w : Unread} → Filled a b u v → Filled b c v w → Filled a c u w
filled_both {u = u} f g = record {
  more = f.more ++ g.more;
  goes = λ start answered. g.goes start (f.goes start answered);
  come = λ come. g.come (f.come come);
  behind = g.behind ∙ ap (λ v. v ++ g.more) f.behind ∙ append_assoc u.bytes f.more g.more;
  came = g.came ∙ ap (λ v. v ++ g.more) f.came ∙ append_assoc u.came f.more g.more;
  room = let first = f.room in let second = g.room in omega (arith, first, second, length-append f.more g.more);
}

pub filled_fails : {old mid : Seen} {u v : Unread} (new : Seen) (why : TakeFault) → Filled old mid u v → FillingFails mid new v why → FillingFails old new u why
filled_fails {u = u} {v} new why f fails = λ start limit answered fits.
    let room = f.room in
    let came = ap length f.came in
    fails start limit (f.goes start answered) (omega (arith, fits, room, came, length-append u.came f.more))

-- ---- what was taken is one text

module _ {start now : Seen} {limit other : ℕ} {xs ys : List ℕ} (a : TakesAll start now limit xs) (b : TakesAll start now other ys) where
  same_answered : a.since.bytes ≡ b.since.bytes
  same_answered = append_cancel_left start.history.bytes a.since.bytes b.since.bytes
      (sym (ap (λ (h : History). h.bytes) a.answered.history) ∙ ap (λ (h : History). h.bytes) b.answered.history)

  pub taken_once : xs ≡ ys
  taken_once =
      let both : Ok xs ≡ says b.since.bytes = sym a.all.said ∙ ap says same_answered in
      let same : Ok xs ≡ Ok ys = both ∙ b.all.said in
      cc
