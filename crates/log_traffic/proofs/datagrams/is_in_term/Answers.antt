use Rattle.log_traffic.proofs.DatagramLemmas.{in_term}
use Rattle.log_traffic.proofs.datagrams.is_in_term.Goals as goal

pub returns-then-begin-position : goal.returns-then-begin-position
returns-then-begin-position c = in_term c.args.term_length c.args.number c.args.position c.requires.some c.if-begin-position.true
