-- The effect of one more read on the bytes that came.
use Rattle.std.proofs.Common.{◌≡◌, ℕ, zero, suc, ◌+◌, ◌-◌, ◌≤◌, List, ◌++◌, length, take, Result, Ok, Err, refl, sym, ap, subst, ◌∙◌, arith}
use Rattle.std.specs.Prelude.{Vec, nat_lt}
use Rattle.std.specs.Vec.{with_items}
use borrow.Rule.Slice.PartMut.{put_mid, post_of}
use Rattle.std.proofs.Math.Seq.{take-append-add}
use Rattle.std.proofs.lemmas.Bool.{lt-ltb}
use Rattle.std.proofs.lemmas.List.{length-append, length-take, length-drop, length-take-le, take-append-le, with_items_is}
use Rattle.kc_io.specs.Sources.{Seen}
use Rattle.kc_gzip.specs.declared.faults.GzipFault.TheVariants as gzip
use Rattle.kc_gzip.specs.declared.gzip_or_plain.GunzipFault.{GunzipFault}
use Rattle.kc_gzip.specs.declared.gzip_or_plain.GunzipFault.TheVariants as gunzip
use Rattle.kc_gzip.specs.declared.unpacked_intakes.TakeFault.{TakeFault}
use Rattle.kc_gzip.specs.declared.unpacked_intakes.TakeFault.TheVariants.{Memory}
use Rattle.kc_gzip.specs.Following.{says_partly, IsFront, HasToldAll, Unpacked, WhyFailed}
use Rattle.kc_gzip.specs.Since.{HasAnswered, Continues}
use Rattle.kc_gzip.specs.Intakes.{AsksForBlocks, HaveCome, AreAll, TakesAll, StopsBehind, Comes, Stops, taking, none_kept, Unread, Filled, Fills, FillingFails, Skips}

-- a reading that failed
stops-behind : (why : GunzipFault) (now : Unpacked) (limit : ℕ) → length now.given.bytes ≤ limit → WhyFailed why now.since
    → IsFront now.given.bytes (says_partly now.since.bytes) → HasToldAll why now.since now.given.bytes → AsksForBlocks now.since
    → StopsBehind (taking why) now.since limit now.given.bytes
stops-behind gunzip.Read now limit within failed front all asks = record { front = front; failed = failed; asks = asks; within = within }
stops-behind gunzip.TooLong now limit within failed front all asks = (record { front = front; unfailed = failed; asks = asks }, within)
stops-behind (gunzip.Gzip gzip.Broken) now limit within failed front all asks =
    record { come = record { front = front; unfailed = failed.0; asks = asks }; all = all; refused = failed.1; within = within }
stops-behind (gunzip.Gzip gzip.Short) now limit within failed front all asks = (
  record { come = record { front = front; unfailed = failed.0; asks = asks }; all = all; refused = failed.2; within = within },
  failed.1,
)
stops-behind (gunzip.Gzip gzip.Memory) now limit within failed front all asks = (record { front = front; unfailed = failed; asks = asks }, within)

-- ---- one filling

-- the bytes at the front of a buffer, and the first of the block that is written behind them
pub block-behind : {Z : Type 0} (buffer : Vec ℕ Z) (left count room : ℕ) (bytes xs block : List ℕ) → xs ≡ buffer.items → take left buffer.items ≡ bytes
    → left + room ≤ length buffer.items → length block ≡ room → count ≤ length block
    → take (left + count) (with_items buffer (put_mid left room xs block)).items ≡ bytes ++ take count block
block-behind buffer left count room bytes xs block same front fits whole inside =
    let rest = post_of left room xs in
    let short : left ≤ length xs = omega (arith, ap length same) in
    let long : length (put_mid left room xs block) ≡ buffer.len =
    omega (arith, buffer.ok.0, ap length same, length-append {A = ℕ}, length-take {A = ℕ}, length-drop {A = ℕ}) in
    ap (take (left + count)) (with_items_is buffer (put_mid left room xs block) long)
    ∙ ap (λ n. take (n + count) (take left xs ++ (block ++ rest))) (sym (length-take-le left xs short))
    ∙ take-append-add (take left xs) (block ++ rest) count
    ∙ ap (λ v. v ++ take count (block ++ rest)) (ap (take left) same ∙ front)
    ∙ ap (λ v. bytes ++ v) (take-append-le count block rest inside)

-- what one read gave stands behind the bytes that were there
module _ (old new : Seen) (before after_it : Unread) (was now : Unpacked) (block : List ℕ) (came_was : before.came ≡ was.given.bytes) (since_was : before.since ≡ was.since)
    (came_now : after_it.came ≡ now.given.bytes) (since_now : after_it.since ≡ now.since) (goes : Continues old was.since new now.since) where
  filled-by : (count : ℕ) → after_it.bytes ≡ before.bytes ++ take count block → after_it.room ≡ before.room - count → Comes count was now before.room block
      → Filled old new before after_it
  filled-by count bytes room comes = record {
    more = take count block;
    goes = λ start answered. subst (HasAnswered start new) (sym since_now) (goes start (subst (HasAnswered start old) since_was answered));
    come = λ _. subst (λ h. HaveCome h after_it.came) (sym since_now) (subst (HaveCome now.since) (sym came_now) comes.come);
    behind = bytes;
    came = came_now ∙ comes.came ∙ ap (λ v. v ++ take count block) (sym came_was);
    room = let within = comes.within in omega (arith, room, within, length-take-le count block comes.inside);
  }

  pub fills : (count : ℕ) → after_it.bytes ≡ before.bytes ++ take count block → after_it.room ≡ before.room - count → Comes count was now before.room block
      → Fills old new before after_it (Ok (nat_lt 0 count))
  unfolding filled-by
  fills zero bytes room comes = (
    filled-by zero bytes room comes,
    refl,
    subst (λ h. AreAll h after_it.came) (sym since_now) (subst (AreAll now.since) (sym came_now) (comes.at_end refl)),
  )
  fills (suc n) bytes room comes = subst (λ some. Fills old new before after_it (Ok some)) (sym (lt-ltb 0 (suc n) (omega arith)))
      (filled-by (suc n) bytes room comes, omega (arith, length-take-le (suc n) block comes.inside))

pub filling-stops : (old new : Seen) (before : Unread) (was now : Unpacked) (why : TakeFault) → before.came ≡ was.given.bytes → before.since ≡ was.since
    → Continues old was.since new now.since → Stops why was now before.room → FillingFails old new before why
filling-stops old new before was now why came_was since_was goes stops = λ start limit answered fits. (
  now.since,
  now.given.bytes,
  goes start (subst (HasAnswered start old) since_was answered),
  stops limit (omega (arith, fits, ap length came_was)),
)

-- a fault that was kept
pub filling-kept : (old : Seen) (before : Unread) (now : Unpacked) (why : GunzipFault) (fault : TakeFault) → fault ≡ taking why → before.came ≡ now.given.bytes
    → before.since ≡ now.since → WhyFailed why now.since → IsFront now.given.bytes (says_partly now.since.bytes) → HasToldAll why now.since now.given.bytes
    → AsksForBlocks now.since → FillingFails old old before fault
filling-kept old before now why fault is came since failed front all asks = filling-stops old old before now now fault came since (λ start answered. answered)
    (λ limit fits. subst (λ f. StopsBehind f now.since limit now.given.bytes) (sym is) (stops-behind why now limit (omega (arith, fits)) failed front all asks))

-- no room for the next block
pub filling-refused : (old : Seen) (before : Unread) (now : Unpacked) → before.came ≡ now.given.bytes → before.since ≡ now.since
    → IsFront now.given.bytes (says_partly now.since.bytes) → now.since.failures ≡ 0 → AsksForBlocks now.since → FillingFails old old before Memory
filling-refused old before now came since front unfailed asks = filling-stops old old before now now Memory came since (λ start answered. answered)
    (λ limit fits. (record { front = front; unfailed = unfailed; asks = asks }, omega (arith, fits)))

-- ---- a skipping

pub record Skipping (old now : Seen) (before after_it : Unpacked) (limit skipped : ℕ) : Type 0 where
  pub rest : List ℕ
  pub long : length rest ≡ skipped
  pub within : skipped ≤ limit
  pub came : after_it.given.bytes ≡ before.given.bytes ++ rest
  pub goes : Continues old before.since now after_it.since
  pub asks : AsksForBlocks after_it.since

pub skipping-stops : (a b c : Seen) (u v w : Unpacked) (limit skipped : ℕ) (why : TakeFault) → Skipping a b u v limit skipped
    → Continues b v.since c w.since → Stops why v w (limit - skipped) → FillingFails a c (none_kept u limit) why
skipping-stops a b c u v w limit skipped why s goes stops = λ start most answered fits. (
  w.since,
  w.given.bytes,
  goes start (s.goes start answered),
  stops most (let came = ap length s.came in let within = s.within in let long = s.long in
      omega (arith, came, within, long, fits, length-append u.given.bytes s.rest)),
)

-- the same of what came before, some of which may be kept
pub skips-rest : (old new : Seen) (unread : Unread) (was : Unpacked) (room : ℕ) (answer : Result ℕ TakeFault) → was.given.bytes ≡ unread.came → was.since ≡ unread.since
    → room ≡ unread.room → Skips old new (none_kept was room) answer → Skips old new unread answer
skips-rest old new unread was room (Ok count) came since same skips = (
  skips.0,
  skips.1,
  λ start limit answered fits. subst (λ v. TakesAll start new limit (v ++ skips.0)) came
      (skips.2 start limit (subst (HasAnswered start old) (sym since) answered) (omega (arith, fits, same, ap length came))),
)
skips-rest old new unread was room (Err why) came since same fails = λ start limit answered fits.
    fails start limit (subst (HasAnswered start old) (sym since) answered) (omega (arith, fits, same, ap length came))
