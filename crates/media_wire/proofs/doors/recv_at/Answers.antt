use Rattle.std.proofs.Common.{inr, refl, rules}
use Rattle.media_wire.proofs.Uses.{used_one}
use Rattle.media_wire.proofs.doors.recv_at.Goals as goal

pub returns-in-Some-clause-used : goal.returns-in-Some-clause-used
returns-in-Some-clause-used g c =
    used_one g.S.Socket.did g.S.Socket.stands _ _ _ _ _ _ _ _ c.in-Some.place c.index_mut.result.now _ c.in-Some.ensures.enters c.index_mut.ensures.value c.recv.ensures.reads refl

pub returns-in-None-clause-used : goal.returns-in-None-clause-used
returns-in-None-clause-used g c = inr (c.in-None.ensures.enters, search rules)
