use Rattle.kc_fastx.proofs.reader.Reads.next_read.Goals as goal

pub returns-clause-resumed : goal.returns-clause-resumed
returns-clause-resumed g c = rw (← c.self.view_is) c.next_read.ensures.resumed
