-- The octets are the address.
use Rattle.ip_text.proofs.put_ipv4.Goals as goal

pub put_spelled-requires : goal.put_spelled-requires
put_spelled-requires c = rw c.octets_of-octets.ensures c.requires.1

pub returns : goal.returns
returns c = rw c.octets_of-octets.ensures at c.put_spelled.ensures
