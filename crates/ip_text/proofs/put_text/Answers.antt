-- By the length of the address.
use Rattle.ip_text.proofs.Lengths.{ipv4-text, ipv6-text}
use Rattle.ip_text.proofs.put_text.Goals as goal

pub put_ipv4-requires : goal.put_ipv4-requires
put_ipv4-requires c =
    let p = c.requires in
    (c.if-address-eq4.true, rw (ipv4-text c.args.address.now c.if-address-eq4.true) at p.1)

pub returns-then-address-eq4 : goal.returns-then-address-eq4
returns-then-address-eq4 c =
    rw (ipv4-text c.args.address.now c.if-address-eq4.true) c.put_ipv4.ensures

pub put_ipv6-requires : goal.put_ipv6-requires
put_ipv6-requires c =
    let p = c.requires in
    (p.0.1 c.if-address-eq4.false, rw (ipv6-text c.args.address.now c.if-address-eq4.false) at p.1)

pub returns : goal.returns
returns c =
    rw (ipv6-text c.args.address.now c.if-address-eq4.false) c.put_ipv6.ensures
