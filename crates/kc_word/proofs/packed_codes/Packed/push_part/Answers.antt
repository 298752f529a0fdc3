use Rattle.std.proofs.Common.{vec_len, ◌≡◌, ◌+◌, ◌-◌, ◌*◌, ◌/◌, ◌%◌, ◌^◌, ◌<◌, ◌++◌, min, length, set, bit_or, ap, sym, ◌∙◌, subst, arith}
use Rattle.std.proofs.lemmas.List.{get_or_read_under, length-append}
use Rattle.kc_word.specs.Packed.{codes_in, codes_of}
use Rattle.kc_word.proofs.PackedLemmas.{length-codes_of}
use Rattle.kc_word.proofs.Appending.{IsAppended, AreFilled, appended-more, appended-all, length-appended, length-codes_in, none-appended, appended-split, filled-last}
use Rattle.kc_word.proofs.packed_codes.Packed.push_part.Goals as goal
use Rattle.kc_word.proofs.packed_codes.Packed.push_part.Goals.{After-min-filled, Joined-filled-gt0, then-filled-gt0, else-filled-gt0}
use Rattle.kc_word.proofs.packed_codes.Packed.push_part.Goals.{then-filled-more+in_ok-push_number, else-filled-more}

-- how many codes are there already
used : (c : After-min-filled) → c.self.inside.len ≡ length c.loop-j.self
used c = sym (length-codes_of c.self.inside.numbers.items c.self.inside.len) ∙ ap length c.self.view_is

-- the codes with those for which the last number has room
front : (c : Joined-filled-gt0) → AreFilled c.loop-j.self c.window-number.result c.min-filled.result
    c.if-filled-gt0.self-inside.numbers.items c.if-filled-gt0.self-inside.len
front c = elim c.if-filled-gt0.branch [
  | then-filled-gt0 w ↦
      let exact = c.self.invariant.exact in
      let long = c.self.inside.numbers.ok.0 in
      let filled = c.min-filled.ensures in
      let some = w.if-filled-gt0.true in
      let within : c.self.inside.len / 32 < vec_len c.self.inside.numbers = omega (arith, exact, long, filled, some) in
      let last = filled-last c.self.inside.numbers.items _ c.self.inside.len c.min-filled.result c.window-number.result
      (record { packed = c.self.invariant; some = omega (arith, some); begun = omega (arith, filled, some); room = omega (arith, filled, some) })
      (ap (λ w. set c.self.inside.numbers.items (c.self.inside.len / 32) (bit_or w
      (c.window-number.result / 2 ^ (64 - 2 * c.min-filled.result) * 2 ^ (64 - 2 * c.min-filled.result) % 2 ^ 64 / 2 ^ (2 * (c.self.inside.len % 32)))))
      (get_or_read_under c.self.inside.numbers.items (c.self.inside.len / 32) _ _ 0 w.index_mut.ensures.value within c.self.inside.numbers.ok.0)) in
      rw w.self-inside-is (record {
        packed = last.packed;
        codes = last.codes ∙ ap (λ codes. codes ++ codes_in c.window-number.result c.min-filled.result) c.self.view_is;
      })
  | else-filled-gt0 w ↦ rw w.self-inside-is (record {
    packed = c.self.invariant;
    codes = c.self.view_is ∙ none-appended c.loop-j.self c.window-number.result c.min-filled.result (let none = w.if-filled-gt0.false in omega (arith, none));
  })
]

pub overflow_add-self : goal.overflow_add-self
overflow_add-self c =
    let now = used (goal.at.overflow_add-self c).After-min-filled in
    let long = length-appended c.args.self.now c.loop-j.self c.args.other.now c.args.from (min (c.loop-j.j * 32) (c.args.to - c.args.from)) c.loop-j.invariant in
    let test = c.loop-j-test.true in
    let end = c.div_ceil-j-end.ensures in
    let more = c.min-more.ensures in
    let filled = c.min-filled.ensures in
    let fits = c.requires.fits in
    omega (arith, now, long, test, end, more, filled, fits)

-- how many codes are there once the last number is full
now_long : (c : Joined-filled-gt0) → length (codes_of c.if-filled-gt0.self-inside.numbers.items c.if-filled-gt0.self-inside.len)
    ≡ length c.loop-j.self + c.min-filled.result
now_long c =
    let long = ap length (front c).codes ∙ length-append c.loop-j.self (codes_in c.window-number.result c.min-filled.result) in
    let count = length-codes_in c.window-number.result c.min-filled.result in
    omega (arith, long, count)

pub push_number-requires-clause-whole : goal.push_number-requires-clause-whole
push_number-requires-clause-whole c =
    let at = goal.at.push_number-requires-clause-whole c in
    let long = now_long at.Joined-filled-gt0 in
    let now = used at.After-min-filled in
    let filled = c.min-filled.ensures in
    let left = c.if-filled-more.true in
    omega (arith, long, now, filled, left)

pub push_number-requires-clause-fits : goal.push_number-requires-clause-fits
push_number-requires-clause-fits c =
    let before = length-appended c.args.self.now c.loop-j.self c.args.other.now c.args.from (min (c.loop-j.j * 32) (c.args.to - c.args.from)) c.loop-j.invariant in
    let long = now_long (goal.at.push_number-requires-clause-fits c).Joined-filled-gt0 in
    let test = c.loop-j-test.true in
    let end = c.div_ceil-j-end.ensures in
    let more = c.min-more.ensures in
    let left = c.if-filled-more.true in
    let fits = c.requires.fits in
    omega (arith, before, long, test, end, more, left, fits)

pub invariant_of-self-else-filled-more : goal.invariant_of-self-else-filled-more
invariant_of-self-else-filled-more c = (front (goal.at.invariant_of-self-else-filled-more c).Joined-filled-gt0).packed

pub loop-j-preserved : goal.loop-j-preserved
loop-j-preserved c =
    let test = c.loop-j-test.true in
    let end = c.div_ceil-j-end.ensures in
    let count = c.min-more.ensures in
    let filled = c.min-filled.ensures in
    let within = c.requires.within in
    let ordered = c.requires.ordered in
    let taken : min (c.loop-j.j * 32) (c.args.to - c.args.from) ≡ c.loop-j.j * 32 = omega (arith, test, end) in
    let more : c.loop-j.j * 32 + c.min-more.result ≡ min ((c.loop-j.j + 1) * 32) (c.args.to - c.args.from) = omega (arith, test, end, count) in
    subst (IsAppended c.args.self.now c.if-filled-more.self c.args.other.now c.args.from) more
    (appended-more c.args.self.now c.args.other.now c.args.from (c.loop-j.j * 32) (record {
      now = c.loop-j.self;
      next = c.if-filled-more.self;
      count = c.min-more.result;
      number = c.window-number.result;
      next_is = appended-split c.loop-j.self c.window-number.result c.min-more.result (record {
        first = c.min-filled.result;
        filled = codes_of c.if-filled-gt0.self-inside.numbers.items c.if-filled-gt0.self-inside.len;
        next = c.if-filled-more.self;
        within = omega (arith, filled);
        most = omega (arith, count);
        filled_is = (front (goal.at.loop-j-preserved c).Joined-filled-gt0).codes;
        next_is = elim c.if-filled-more.branch [
          | then-filled-more+in_ok-push_number w ↦ w.self-is ∙ w.in_ok-push_number.ensures
          | else-filled-more w ↦ w.self-is ∙ none-appended (codes_of c.if-filled-gt0.self-inside.numbers.items c.if-filled-gt0.self-inside.len) (c.window-number.result * 2 ^ (2 * c.min-filled.result) % 2 ^ 64)
              (c.min-more.result - c.min-filled.result) (let all = w.if-filled-more.false in omega (arith, all))
        ];
      });
      fits = (omega (arith, count), omega (arith, test, end, count, within, ordered));
      window = c.window-number.ensures;
    })
    (subst (IsAppended c.args.self.now c.loop-j.self c.args.other.now c.args.from) taken c.loop-j.invariant))

pub returns : goal.returns
returns c =
    let test = c.loop-j-test.false in
    let end = c.div_ceil-j-end.ensures in
    let within = c.requires.within in
    let ordered = c.requires.ordered in
    let all : min (c.loop-j.j * 32) (c.args.to - c.args.from) ≡ c.args.to - c.args.from = omega (arith, test, end) in
    appended-all c.args.self.now c.loop-j.self c.args.other.now c.args.from (c.args.to - c.args.from) (omega (arith, within, ordered))
    (subst (IsAppended c.args.self.now c.loop-j.self c.args.other.now c.args.from) all c.loop-j.invariant)
