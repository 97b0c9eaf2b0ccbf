-- Grants.
use Rattle.std.proofs.Common.{refl}
use Rattle.fs_wire.proofs.Wires.{IsWire, pair-wire, remade}
use Rattle.fs_wire.proofs.NumberWires.{eight-wire}
use Rattle.fs_wire.proofs.SmallWires.{lease_kind-wire, lease-wire}
use Rattle.fs_wire.proofs.FieldWires.{field-wire, value-wire}
use Rattle.fs_msg.specs.Spelling.{grant}
use Rattle.fs_msg.specs.Ranges.{FitsGrant}
use Rattle.fs_msg.specs.Tags.{grant_tags}
use Rattle.fs_msg.specs.Reading.{grant_at}

pub grant-wire : IsWire grant_at FitsGrant grant grant_tags
unfolding grant_at grant grant_tags
grant-wire = remade _ (λ g. (g.no, (g.field, (g.kind, (g.until, g.value))))) FitsGrant grant grant_tags (pair-wire lease-wire (pair-wire field-wire (pair-wire lease_kind-wire (pair-wire eight-wire value-wire))))
    (λ v f. record { no = f.0; field = f.1.0; until = f.1.1.1.0; value = f.1.1.1.1 }) (λ w f. (f.no, (f.field, (tt, (f.until, f.value))))) (λ v. refl) (λ w s. s)
