-- What a node's settings say of its actor.
use Rattle.std.proofs.Common.{◌≡◌, ◌≤◌, ◌<◌, ℕ, List, subst, arith}
use Rattle.std.specs.List.{AllByRecursion}
use Rattle.fs_ident.specs.declared.actor.Peer.{Peer}
use Rattle.fs_ident.specs.declared.actor.Peer.TheVariants.{Server, Client}
use Rattle.fs_ident.specs.declared.actor.Session.{Session}
use Rattle.fs_ident.specs.declared.limits.TheConstants.{SESSIONS}
use Rattle.fs_launch.proofs.Askable.{askable}
use Rattle.fs_launch.specs.Launch.{is_client}
use Rattle.fs_msg.specs.declared.limits.TheConstants.{SERVERS}
use Rattle.fs_node.specs.Scripts.{AreAskable}
use Rattle.fs_schedule.specs.Script.{FitsScript, served}
use Rattle.fs_schedule.specs.declared.script.Script.{Script}
use Rattle.fs_words.specs.Usage.{FitsActor, FitsSettings}
use Rattle.fs_words.specs.declared.command.Settings.{Settings}

pub is_server : (n : Settings) (me : ℕ) → FitsSettings n → n.who ≡ Server me → me < SERVERS
is_server n me fits is =
    let below : me < n.servers = subst (λ (who : Peer). FitsActor n.servers who) is fits.who in
    omega (arith, below, fits.servers)

pub is_session : (n : Settings) (s : Session) → FitsSettings n → n.who ≡ Client s → (1 ≤ s.0) × (s.0 ≤ SESSIONS)
is_session n s fits is = subst (λ (who : Peer). FitsActor n.servers who) is fits.who

pub can_ask : (n : Settings) (s : Session) (lines : List Script) → n.who ≡ Client s → AllByRecursion (FitsScript (is_client n.who) (served n.servers)) lines → AreAskable lines
can_ask n s lines is fits = askable n.servers lines (subst (λ (who : Peer). AllByRecursion (FitsScript (is_client who) (served n.servers)) lines) is fits)
