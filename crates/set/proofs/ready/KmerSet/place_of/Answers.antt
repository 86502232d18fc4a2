use Rattle.set.proofs.ready.KmerSet.place_of.Goals as goal

pub look_up-requires : goal.look_up-requires
look_up-requires c =
    let p = c.args.self.now.ready in
    (p.table, rw (← p.k_is) c.requires.0, c.requires.1)

pub returns : goal.returns
returns c = c.look_up.ensures
