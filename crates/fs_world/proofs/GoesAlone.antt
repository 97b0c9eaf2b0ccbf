-- Where a server hears no message nothing but its links changes.
use Rattle.std.proofs.Common.{◌≡◌, ℕ, Bool, [], ◌++◌, append-nil, sym}
use Rattle.std.specs.Prelude.{Option, None}
use Rattle.fs_ident.specs.declared.actor.Peer.{Peer}
use Rattle.fs_actor.specs.Actor as actor
use Rattle.fs_msg.specs.declared.note.Note.{Note}
use Rattle.fs_world.specs.Calls.{server_goes}
use Rattle.fs_world.specs.Served.{ServerStepped, core_of, server_stepped}

pub goes_alone : (k : ℕ) (turn : Bool) (heard : Option Peer) (n : Note) (x : ServerStepped)
    → server_goes k turn heard n None x ≡ server_stepped k (actor.server_goes turn heard n (core_of x)) x
goes_alone k turn heard n x =
    let in_flight : x.in_flight ≡ x.in_flight ++ [] = sym (append-nil x.in_flight) in
    let journal : x.journal ≡ x.journal ++ [] = sym (append-nil x.journal) in
    λ i. record (server_goes k turn heard n None x) { in_flight = in_flight i; journal = journal i }
