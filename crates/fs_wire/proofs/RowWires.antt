-- Rows, handles and nodes.
use Rattle.std.proofs.Common.{refl}
use Rattle.fs_wire.specs.Spelling.{row, handle, node}
use Rattle.fs_wire.specs.Ranges.{FitsRow, FitsHandle, FitsNode}
use Rattle.fs_wire.specs.Tags.{plain, row_tags}
use Rattle.fs_wire.specs.Reading.{row_at, handle_at, node_at}
use Rattle.fs_wire.proofs.Wires.{IsWire, pair-wire, plain-pair, plain-option, remade}
use Rattle.fs_wire.proofs.NumberWires.{four-wire, eight-wire, plain-list}
use Rattle.fs_wire.proofs.SmallWires.{truth-wire, kind-wire, lease_kind-wire, modes-wire, session-wire, lease-wire, transaction-wire}
use Rattle.fs_wire.proofs.NameWires.{identifier-wire, name-wire}
use Rattle.fs_wire.proofs.FieldWires.{any-option, field-wire}

pub row-wire : IsWire row_at FitsRow row row_tags
unfolding row_at row row_tags
row-wire = remade _ (λ r. (r.no, (r.session, (r.field, (r.kind, (r.until, (r.promise, r.lock))))))) FitsRow row row_tags (pair-wire lease-wire (pair-wire session-wire (pair-wire field-wire (pair-wire lease_kind-wire (pair-wire eight-wire (pair-wire (plain-option truth-wire) (plain-option transaction-wire)))))))
    (λ v f. record { no = f.0; session = f.1.0; field = f.1.1.0; until = f.1.1.1.1.0; lock = f.1.1.1.1.1.1 }) (λ w f. (f.no, (f.session, (f.field, (tt, (f.until, (any-option w.promise, f.lock))))))) (λ v. refl) (λ w s. s)

pub handle-wire : IsWire handle_at FitsHandle handle (λ h. plain (handle h))
unfolding handle_at
handle-wire = remade _ (λ h. (h.session, (h.h, h.modes))) FitsHandle handle (λ h. plain (handle h)) (plain-pair session-wire (plain-pair four-wire modes-wire))
    (λ v f. record { session = f.0; h = f.1.0; modes = f.1.1 }) (λ w f. (f.session, (f.h, f.modes))) (λ v. refl) (λ w s. s)

pub node-wire : IsWire node_at FitsNode node (λ n. plain (node n))
unfolding node_at node
node-wire = remade _ (λ n. (n.kind, (n.parent, (n.children, (n.size, (n.stamp, n.handles)))))) FitsNode node (λ n. plain (node n)) (plain-pair kind-wire (plain-pair (plain-option (plain-pair identifier-wire name-wire)) (plain-pair (plain-list (plain-pair name-wire identifier-wire)) (plain-pair eight-wire (plain-pair eight-wire (plain-list handle-wire))))))
    (λ v f. record { parent = f.1.0; children = f.1.1.0; size = f.1.1.1.0; stamp = f.1.1.1.1.0; handles = f.1.1.1.1.1 }) (λ w f. (tt, (f.parent, (f.children, (f.size, (f.stamp, f.handles)))))) (λ v. refl) (λ w s. s)
