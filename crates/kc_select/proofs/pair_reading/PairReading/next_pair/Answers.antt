use Rattle.std.proofs.Common.{sym, subst}
use Rattle.kc_io.specs.Sources.{Seen}
use Rattle.kc_select.specs.declared.sides.Sides.{Sides}
use Rattle.kc_select.specs.Pairs.{firsts, seconds}
use Rattle.kc_select.specs.SelectingPairs.{HaveGivenPairs}
use Rattle.kc_select.specs.PairReaders.{PairReader, GivesPair}
use Rattle.kc_select.proofs.PairReaderLemmas.{first_given, none_met, given_next}
use Rattle.kc_select.proofs.pair_reading.PairReading.next_pair.Goals as goal

pub returns-in-Err-clause-given : goal.returns-in-Err-clause-given
returns-in-Err-clause-given g c = λ start limit these given numbered.
    let old : Sides Seen = record { first = g.S.Source.seen c.args.first.now; second = g.T.Source.seen c.args.second.now } in
    let h = subst (λ (r : PairReader). HaveGivenPairs start old limit these r.stands) (sym c.self.view_is) given in (
      (
        c.next_titled.new.self,
        c.in-Err.ensures.given start.first limit (firsts these) h.first,
        c.in-Err.ensures.behind start.first limit (firsts these) h.first,
      ),
      first_given h.second,
    )

pub returns-in-Err-next_titled-clause-given : goal.returns-in-Err-next_titled-clause-given
returns-in-Err-next_titled-clause-given g c = λ start limit these given numbered.
    let old : Sides Seen = record { first = g.S.Source.seen c.args.first.now; second = g.T.Source.seen c.args.second.now } in
    let h = subst (λ (r : PairReader). HaveGivenPairs start old limit these r.stands) (sym c.self.view_is) given in (
      none_met start.first (g.S.Source.seen c.next_titled.new.source) limit (firsts these) c.next_titled.new.self
          c.next_titled.new.title.items c.in-Ok.one (c.in-Ok.ensures.given start.first limit (firsts these) h.first),
      (
        c.next_titled-2.new.self,
        c.in-Err-next_titled.ensures.given start.second limit (seconds these) h.second,
        c.in-Err-next_titled.ensures.behind start.second limit (seconds these) h.second,
      ),
    )

pub returns-clause-given : goal.returns-clause-given
returns-clause-given g c = λ start limit these given.
    let old : Sides Seen = record { first = g.S.Source.seen c.args.first.now; second = g.T.Source.seen c.args.second.now } in
    let now : Sides Seen =
    record { first = g.S.Source.seen c.next_titled.new.source; second = g.T.Source.seen c.next_titled-2.new.source } in
    let reader : PairReader = record {
      stands = record { first = c.next_titled.new.self; second = c.next_titled-2.new.self };
      titles = record { first = c.next_titled.new.title.items; second = c.next_titled-2.new.title.items };
    } in
    let h = subst (λ (r : PairReader). HaveGivenPairs start old limit these r.stands) (sym c.self.view_is) given in
    let is = rw (c.deref.ensures.value, c.deref-2.ensures.value) at c.pair_at.ensures in
    subst (λ v. GivesPair start now limit these reader c.args.number v) (sym is)
    (given_next start old now limit these _ h reader c.args.number c.in-Ok.one c.in-Ok-next_titled.other
    (c.in-Ok.ensures.given start.first limit (firsts these) h.first)
    (c.in-Ok-next_titled.ensures.given start.second limit (seconds these) h.second))
