use native.Mathlib.Omega.{arith}
use mathlib.Core.Path.{sym, ◌∙◌}
use Rattle.std.proofs.Common.{rules}
use Rattle.sflow.specs.Datagram.{as_path_type}
use Rattle.form_writer.proofs.Allowed.{entries_there, entries_elsewhere, entries_nowhere}
use Rattle.form_writer.proofs.Gateways.{no_path, gateway_refused, gateway_written}
use Rattle.form_writer.proofs.extended.write_gateway.Goals as goal

pub returns-in_default : goal.returns-in_default
returns-in_default c =
    no_path c.args.router_as c.args.src_as c.args.src_peer_as c.args.count c.args.path.now c.args.communities.now c.args.localpref _
    (entries_nowhere as_path_type c.args.path.now c.args.count _ _
    (sym c.pass_segments.ensures ∙ c.in_default.is))

pub returns-then-end-path : goal.returns-then-end-path
returns-then-end-path c =
    no_path c.args.router_as c.args.src_as c.args.src_peer_as c.args.count c.args.path.now c.args.communities.now c.args.localpref _
    (entries_elsewhere as_path_type c.args.path.now c.args.count _
    (sym c.pass_segments.ensures ∙ c.in-Ok.is) c.if-end-path.true)

pub returns-in_err-length : goal.returns-in_err-length
returns-in_err-length c =
    let path =
    entries_there as_path_type c.args.path.now c.args.count _
    (sym c.pass_segments.ensures ∙ c.in-Ok.is) c.if-end-path.false in
    gateway_refused c.args.router_as c.args.src_as c.args.src_peer_as c.args.count c.args.path.now c.args.communities.now c.args.localpref path.0 _ _ path.1
    (search rules) c.in_err-length.ensures

pub returns : goal.returns
returns c =
    let communities = c.type_inv.communities in
    let octets = c.type_inv.path in
    let path =
    entries_there as_path_type c.args.path.now c.args.count _
    (sym c.pass_segments.ensures ∙ c.in-Ok.is) c.if-end-path.false in
    gateway_written c.args.router_as c.args.src_as c.args.src_peer_as c.args.count c.args.path.now c.args.communities.now c.args.localpref path.0 _ _ _
    (omega arith) (omega arith) (omega arith) (omega arith) (λ i. (octets i).fits) (λ i. (communities i).fits) (omega arith) (search rules) _ (search rules) path.1 c.write_parts.ensures
