-- Answers on their way, one after another.
use Rattle.std.proofs.Common.{◌≡◌, ℕ, ◌+◌, ◌<◌, ◌++◌, List, [], ◌∷◌, length, refl, ap, sym, ◌∙◌, get_or, take}
use Rattle.std.proofs.lemmas.List.{take_more}
use Rattle.fs_ident.specs.declared.actor.Peer.{Peer}
use Rattle.fs_msg.specs.declared.msg.Msg.{Msg}
use Rattle.fs_world.specs.Served.{SessionStates, with_down, with_downs}

with_downs-append : (k : ℕ) (xs ys : List (Peer × Msg)) (sessions : SessionStates)
    → with_downs k (xs ++ ys) sessions ≡ with_downs k ys (with_downs k xs sessions)
with_downs-append k [] ys sessions = refl
with_downs-append k (x ∷ xs) ys sessions = with_downs-append k xs ys (with_down k x sessions)

-- one more of them
pub downs_more : (k : ℕ) (send : List (Peer × Msg)) (n : ℕ) (x : Peer × Msg) (sessions : SessionStates) → n < length send
    → x ≡ get_or send n x → with_downs k (take (n + 1) send) sessions ≡ with_down k x (with_downs k (take n send) sessions)
downs_more k send n x sessions below is =
    ap (λ (xs : List (Peer × Msg)). with_downs k xs sessions) (take_more send n x below)
    ∙ with_downs-append k (take n send) (get_or send n x ∷ []) sessions
    ∙ ap (λ (y : Peer × Msg). with_down k y (with_downs k (take n send) sessions)) (sym is)
