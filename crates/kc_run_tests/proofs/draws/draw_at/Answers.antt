use Rattle.std.proofs.Common.{refl}
use Rattle.std.proofs.lemmas.List.Elements.{All-set}
use Rattle.kc_tickets.specs.Tickets.{IsSeatOf}
use Rattle.kc_run_tests.proofs.draws.draw_at.Goals as goal

pub returns : goal.returns
returns c = record {
  own = All-set (IsSeatOf c.args.tickets.now) c.args.seats.now.items c.args.index c.draw.new.seat c.draw.ensures.own c.requires.own;
  len = refl;
}
