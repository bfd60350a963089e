use Rattle.std.proofs.Common.{refl}
use Rattle.ax_laws.proofs.PassSources.{packet_source, packet_made}
use Rattle.ax_laws.proofs.each_packet_tells_its_source.Goals as goal

pub returns : goal.returns
returns c = λ t journal packets fit. (refl, λ k before w. packet_source t journal packets fit k before w, λ k l h. packet_made t journal packets fit k l h)
