use mathlib.Core.Path.{◌∙◌}
use Rattle.xdr.proofs.Octets.{bytes_octets}
use Rattle.xdr_write.proofs.write_hyper.Goals as goal

pub returns : goal.returns
returns c = c.write_octets.ensures ∙ rw (c.to_be_bytes.ensures, bytes_octets 8 c.args.v)
