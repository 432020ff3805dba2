use Rattle.machines.proofs.lists.Certificate.begin.Goals as goal

pub returns : goal.returns
returns c = c.new.ensures c.args.case.now
