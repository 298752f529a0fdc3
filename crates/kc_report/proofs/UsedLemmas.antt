-- The bytes that came of a source, decompressed: those that were used, and those that were not.
use Rattle.std.proofs.Common.{◌≡◌, ℕ, ◌+◌, ◌≤◌, List, [], ◌++◌, length, take, drop, sym, ap, subst, ◌∙◌, arith}
use Rattle.std.proofs.Common.{append_assoc, length-append}
use Rattle.std.proofs.lemmas.List.{take-append-drop}
use Rattle.std.specs.Prelude.{Ok}
use Rattle.kc_io.specs.Sources.{Seen}
use Rattle.kc_gzip.specs.declared.unpacked_intakes.TakeFault.{TakeFault}
use Rattle.kc_gzip.specs.declared.unpacked_intakes.TakeFault.TheVariants.{Memory}
use Rattle.kc_gzip.specs.Intakes.{TakesAll, TakingFails, Unread, nothing_taken, TakenSoFar, Filled, Ended}
use Rattle.kc_gzip.specs.Intakes.{FillingFails, Skips}
use Rattle.kc_gzip.proofs.IntakesLemmas.{taken_none, taken_in_vain, taken_filled, taken_ended, taken_fails, fits_came}

-- since the start these bytes came and were used, and after them those that are unread; together with what may still
-- come they are the limit
pub record Used (start now : Seen) (limit : ℕ) (used : List ℕ) (unread : Unread) : Type 0 where
  pub taken : TakenSoFar start now limit unread (used ++ unread.bytes)
  pub room : length (used ++ unread.bytes) + unread.room ≡ limit

pub used_none : (s : Seen) (limit : ℕ) → Used s s limit [] (nothing_taken limit)
used_none s limit = record { taken = taken_none s limit; room = omega arith }

pub used_filled : {start mid now : Seen} {limit : ℕ} {used : List ℕ} {before after : Unread}
    → Used start mid limit used before → Filled mid now before after → Used start now limit used after
used_filled {start} {mid} {now} {limit} {used} {before} {after} u f =
    let all : (used ++ before.bytes) ++ f.more ≡ used ++ after.bytes = append_assoc used before.bytes f.more
    ∙ ap (λ v. used ++ v) (sym f.behind) in
    let long = ap length all in
    let parts = length-append (used ++ before.bytes) f.more in
    record {
      taken = subst (λ v. TakenSoFar start now limit after v) all (taken_filled u.taken f u.room);
      room = let room = u.room in let less = f.room in omega (arith, long, parts, room, less);
    }

pub used_up : {start now : Seen} {limit : ℕ} {used : List ℕ} {unread : Unread} (n : ℕ)
    → Used start now limit used unread
    → Used start now limit (used ++ take n unread.bytes) (record unread { bytes = drop n unread.bytes })
used_up {start} {now} {limit} {used} {unread} n u =
    let all : used ++ unread.bytes ≡ (used ++ take n unread.bytes) ++ drop n unread.bytes =
    ap (λ v. used ++ v) (sym (take-append-drop n unread.bytes))
    ∙ sym (append_assoc used (take n unread.bytes) (drop n unread.bytes)) in
    let taken = u.taken in
    record {
      taken = record {
        answered = taken.answered;
        come = taken.come;
        are = sym all ∙ taken.are;
        within = subst (λ v. length v ≤ limit) all taken.within;
      };
      room = ap (λ v. length v + unread.room) (sym all) ∙ u.room;
    }

-- the source has returned its end, and its whole text came
pub used_ended : {start now : Seen} {limit : ℕ} {used : List ℕ} {unread : Unread} → Used start now limit used unread
    → Ended unread → TakesAll start now limit (used ++ unread.bytes)
used_ended u ended = taken_ended u.taken ended

-- all that was left came
pub used_skips : {start mid new : Seen} {limit many : ℕ} {used : List ℕ} {unread : Unread}
    → Used start mid limit used unread → (skips : Skips mid new unread (Ok many))
    → TakesAll start new limit ((used ++ unread.bytes) ++ skips.0)
used_skips {start} {mid} {new} {limit} {many} {used} {unread} u skips =
    let came = u.taken.are in
    subst (λ v. TakesAll start new limit (v ++ skips.0)) (sym came)
    (skips.2 start limit u.taken.answered (fits_came limit unread.room (used ++ unread.bytes) unread.came came u.room))

pub used_fails : {start mid : Seen} {limit : ℕ} {used : List ℕ} {unread : Unread} (new : Seen) (why : TakeFault)
    → Used start mid limit used unread → FillingFails mid new unread why → TakingFails start new limit why
used_fails new why u fails = taken_fails new why u.taken fails u.room

pub used_in_vain : {start now : Seen} {limit : ℕ} {used : List ℕ} {unread : Unread}
    → Used start now limit used unread → TakingFails start now limit Memory
used_in_vain u = taken_in_vain u.taken
