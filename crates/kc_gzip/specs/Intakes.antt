-- Taking a source block by block: what it leaves of the source, and of the bytes that came and are not used yet.
use Rattle.std.specs.Prelude.{◌≡◌, ℕ, ◌+◌, ◌<◌, ◌≤◌, Bool, true, false, List, [], ◌∷◌, ◌++◌, length, take, All}
use Rattle.std.specs.Prelude.{Result, Ok, Err}
use Rattle.kc_io.specs.History.{History, no_history}
use Rattle.kc_io.specs.Sources.{Seen}
use Rattle.kc_gzip.specs.declared.faults.GzipFault.{GzipFault}
use Rattle.kc_gzip.specs.declared.faults.GzipFault.TheVariants as gzip
use Rattle.kc_gzip.specs.declared.unpacked_intakes.TakeFault.{TakeFault}
use Rattle.kc_gzip.specs.declared.unpacked_intakes.TakeFault.TheVariants.{TooLong, Read, Broken, Short, Memory}
use Rattle.kc_gzip.specs.declared.gzip_or_plain.GunzipFault.{GunzipFault}
use Rattle.kc_gzip.specs.declared.gzip_or_plain.GunzipFault.TheVariants as gunzip
use Rattle.kc_gzip.specs.Following.{says, says_partly, IsFront, Unpacked}
use Rattle.kc_gzip.specs.Since.{HasAnswered}

-- ---- the bytes that came

-- how many bytes each read asks for
abbrev pub block_size : ℕ
block_size = 65536

-- each read asked for a block, and gave a byte or more, returned an end, or failed
pub record AsksForBlocks (since : History) : Type 0 where
  pub blocks : All (λ room. room ≡ block_size) since.asked
  pub few : length since.asked ≤ length since.bytes + length since.ends + since.failures

-- these bytes are a prefix of the text of a source with this history, and no read failed
pub record HaveCome (since : History) (bytes : List ℕ) : Type 0 where
  pub front : IsFront bytes (says_partly since.bytes)
  pub unfailed : since.failures ≡ 0
  pub asks : AsksForBlocks since

-- they are its whole text: it has returned its end, once
pub record AreAll (since : History) (bytes : List ℕ) : Type 0 where
  pub come : HaveCome since bytes
  pub ended : since.ends ≡ length since.bytes ∷ []
  pub said : says since.bytes ≡ Ok bytes

-- all bytes of the source were taken, up to its end; this is their text, of at most `limit` bytes
pub record TakesAll (start now : Seen) (limit : ℕ) (bytes : List ℕ) : Type 0 where
  pub since : History
  pub answered : HasAnswered start now since
  pub all : AreAll since bytes
  pub within : length bytes ≤ limit

-- these came, at most `limit`, and then a read failed
pub record FailsBehind (since : History) (limit : ℕ) (bytes : List ℕ) : Type 0 where
  pub front : IsFront bytes (says_partly since.bytes)
  pub failed : since.failures ≡ 1
  pub asks : AsksForBlocks since
  pub within : length bytes ≤ limit

-- these came, at most `limit`, and they are all that can be read of bytes that are refused with this fault
pub record BreaksBehind (fault : GzipFault) (since : History) (limit : ℕ) (bytes : List ℕ) : Type 0 where
  pub come : HaveCome since bytes
  pub all : bytes ≡ says_partly since.bytes
  pub refused : says since.bytes ≡ Err fault
  pub within : length bytes ≤ limit

-- why no more came
abbrev pub StopsBehind : TakeFault → History → ℕ → List ℕ → Type 0
StopsBehind TooLong since limit bytes = HaveCome since bytes × (limit < length bytes)
StopsBehind Read since limit bytes = FailsBehind since limit bytes
StopsBehind Broken since limit bytes = BreaksBehind gzip.Broken since limit bytes
StopsBehind Short since limit bytes =
    BreaksBehind gzip.Short since limit bytes × (since.ends ≡ length since.bytes ∷ [])
StopsBehind Memory since limit bytes = HaveCome since bytes × (length bytes ≤ limit)

-- Why not all bytes were taken: their text is longer than `limit`; or they are broken gzip, or gzip that is cut short;
-- or a read failed; or there was no memory for them; whichever came first.
abbrev pub TakingFails : Seen → Seen → ℕ → TakeFault → Type 0
TakingFails start now limit why =
    (since : History) × (bytes : List ℕ) × HasAnswered start now since × StopsBehind why since limit bytes

-- the fault of an intake for each fault of a decompression
abbrev pub taking : GunzipFault → TakeFault
taking gunzip.Read = Read
taking gunzip.TooLong = Memory
taking (gunzip.Gzip gzip.Broken) = Broken
taking (gunzip.Gzip gzip.Short) = Short
taking (gunzip.Gzip gzip.Memory) = Memory

-- one more read gave the first bytes of the block, no more than there was room for; none only if all came
pub record Comes (count : ℕ) (before after : Unpacked) (room : ℕ) (block : List ℕ) : Type 0 where
  pub inside : count ≤ length block
  pub within : count ≤ room
  pub came : after.given.bytes ≡ before.given.bytes ++ take count block
  pub come : HaveCome after.since after.given.bytes
  pub at_end : count ≡ 0 → AreAll after.since after.given.bytes

-- why no more came, under the limit that leaves this room
abbrev pub Stops : TakeFault → Unpacked → Unpacked → ℕ → Type 0
Stops why before after room =
    (limit : ℕ) → length before.given.bytes + room ≡ limit → StopsBehind why after.since limit after.given.bytes

-- ---- an intake

pub record Unread : Type 0 where
  -- the bytes that came and are not used yet
  pub bytes : List ℕ
  -- how many more may come
  pub room : ℕ
  -- all bytes that came, and what the source has answered for them
  pub came : List ℕ
  pub since : History

-- the state before the first read, if `limit` bytes may come
abbrev pub nothing_taken : ℕ → Unread
nothing_taken limit = record { bytes = []; room = limit; came = []; since = no_history }

-- these bytes of the source were taken so far, at most `limit`
pub record TakenSoFar (start now : Seen) (limit : ℕ) (unread : Unread) (bytes : List ℕ) : Type 0 where
  pub answered : HasAnswered start now unread.since
  pub come : HaveCome unread.since unread.came
  pub are : bytes ≡ unread.came
  pub within : length bytes ≤ limit

-- what a decompression gave, with none of it kept
abbrev pub none_kept : Unpacked → ℕ → Unread
none_kept unpacked room = record { bytes = []; room = room; came = unpacked.given.bytes; since = unpacked.since }

-- the source went on from what it had answered before
abbrev pub GoesOn : Seen → Seen → Unread → Unread → Type 0
GoesOn old new before after =
    (start : Seen) → HasAnswered start old before.since → HasAnswered start new after.since

-- some bytes came after those that were there, no more than there was room for
pub record Filled (old new : Seen) (before after : Unread) : Type 0 where
  pub more : List ℕ
  pub goes : GoesOn old new before after
  pub come : HaveCome before.since before.came → HaveCome after.since after.came
  pub behind : after.bytes ≡ before.bytes ++ more
  pub came : after.came ≡ before.came ++ more
  pub room : before.room ≡ after.room + length more

-- the source has returned its end, and its whole text came
abbrev pub Ended : Unread → Type 0
Ended unread = AreAll unread.since unread.came

-- whatever the source was first, and whatever the limit is, taking it fails
abbrev pub FillingFails : Seen → Seen → Unread → TakeFault → Type 0
FillingFails old new before why = (start : Seen) (limit : ℕ) → HasAnswered start old before.since
    → length before.came + before.room ≡ limit → TakingFails start new limit why

-- Ok(true): some bytes came; Ok(false): the source returned its end and none came; otherwise why none could be taken
abbrev pub Fills : Seen → Seen → Unread → Unread → Result Bool TakeFault → Type 0
Fills old new before after (Ok true) = (filled : Filled old new before after) × (0 < length filled.more)
Fills old new before after (Ok false) =
    (filled : Filled old new before after) × (filled.more ≡ []) × Ended after
Fills old new before after (Err why) = FillingFails old new before why

-- all that is left was taken, and the result is the length of its text; or why it could not be taken
abbrev pub Skips : Seen → Seen → Unread → Result ℕ TakeFault → Type 0
Skips old new unread (Ok count) = (rest : List ℕ) × (length rest ≡ count)
    × ((start : Seen) (limit : ℕ) → HasAnswered start old unread.since
    → length unread.came + unread.room ≡ limit → TakesAll start new limit (unread.came ++ rest))
Skips old new unread (Err why) = FillingFails old new unread why
