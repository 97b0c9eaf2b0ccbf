-- What is decided is told by the words on their way, and by what servers have decided.
use mathlib.Core.Path.{fun_ext}
use Rattle.std.proofs.Common.{◌≡◌, List, [], ◌∷◌, ◌++◌, refl, sym, ap, ◌∙◌}
use Rattle.std.specs.Prelude.{option_map}
use Rattle.std.specs.List.{cons_option, flat_map}
use Rattle.fs_ident.specs.declared.actor.TxnNo.{TxnNo}
use Rattle.fs_msg.specs.declared.peer_msg.PeerMsg.{PeerMsg}
use Rattle.fs_msg.specs.declared.peer_msg.PeerMsg.TheVariants as peer
use Rattle.fs_server.specs.declared.state.Server.{Server}
use Rattle.fs_txn.specs.Grants.{Decided}
use Rattle.fs_txn.specs.Stages.{Told, Word}
use Rattle.fs_txn.specs.Stages.Word.{Prepare, Voted, Decide, Done}
use Rattle.fs_serial.specs.Cluster.{InFlight}
use Rattle.fs_serial.specs.Words.{decided_among, decided_at, decided_by, ended_in, telling_of, told_in, told_with, word_in}
pub use Rattle.fs_serial.proofs.Transactions.Desks.{ended_set}

-- what a word tells a part to do
abbrev pub decided_word : List Server → TxnNo → Word → List Decided
decided_word servers txn (Decide es) = decided_at (ended_in servers txn) es
decided_word servers txn w = []

abbrev pub decided_told : List Server → Told → List Decided
decided_told servers m = decided_word servers m.key.txn m.word

abbrev all_told : List Server → List Told → List Decided
all_told servers ms = flat_map (decided_told servers) ms

one_told : (servers : List Server) (f : InFlight) (ms : List Told)
    → decided_by servers f.message ++ all_told servers ms ≡ all_told servers (cons_option (told_in f) ms)
one_told servers f ms = by_message f.message
  where
    by_message : (m : PeerMsg) → decided_by servers m ++ all_told servers ms ≡ all_told servers
        (cons_option (option_map (told_with f.from f.to) (word_in m)) ms)
    by_message (peer.Decide d) = refl
    by_message m = refl

pub told_is : (servers : List Server) (fs : List InFlight) → decided_among servers fs ≡ flat_map (decided_told servers) (telling_of fs)
told_is servers [] = refl
told_is servers (f ∷ fs) = ap (λ xs. decided_by servers f.message ++ xs) (told_is servers fs) ∙ one_told servers f (telling_of fs)

same_told : (ss ts : List Server) → ((txn : TxnNo) → ended_in ts txn ≡ ended_in ss txn) → (m : Told) → decided_told ts m ≡ decided_told ss m
same_told ss ts e m = by_word m.word
  where
    by_word : (w : Word) → decided_word ts m.key.txn w ≡ decided_word ss m.key.txn w
    by_word (Prepare w) = refl
    by_word (Voted v) = refl
    by_word (Decide es) = ap (λ o. decided_at o es) (e m.key.txn)
    by_word Done = refl

pub decided_same : (ss ts : List Server) (fs gs : List InFlight) → ((txn : TxnNo) → ended_in ts txn ≡ ended_in ss txn)
    → telling_of gs ≡ telling_of fs → decided_among ts gs ≡ decided_among ss fs
decided_same ss ts fs gs e t =
    told_is ts gs ∙ ap (λ (f : Told → List Decided). flat_map f (telling_of gs)) (fun_ext (same_told ss ts e)) ∙ ap (all_told ss) t
    ∙ sym (told_is ss fs)
