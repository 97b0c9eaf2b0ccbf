-- What a node comes to once its address is bound.
use Rattle.std.proofs.Common.{◌≡◌, ℕ, List, refl, subst}
use Rattle.std.specs.Prelude.{Option, Some, None, Result, Ok, Err, IfSome, OnOk, IsErrOf}
use Rattle.fs_io.specs.Calls.{Made}
use Rattle.fs_io.specs.Told.{Adds}
use Rattle.fs_launch.specs.Launch.{IsNotScript, IsUnturned, NodeComesTo, ScriptComesTo, bind_call, told}
use Rattle.fs_launch.specs.declared.error.LaunchError.{LaunchError}
use Rattle.fs_launch.specs.declared.error.LaunchError.TheVariants as error
use Rattle.fs_node.specs.Peers.{Peers}
use Rattle.fs_turns.specs.Run.{Outside}
use Rattle.fs_turns.specs.declared.stop.Stop.{Stop}
use Rattle.fs_words.specs.declared.command.Settings.{Settings}

-- where its address is bound, it makes no turn only for want of a script
pub not_script : (r : Result (Unit {0}) LaunchError) → (IsErrOf r error.Bind → ⊥) → IsUnturned r → IsNotScript r
not_script (Ok done) h u = u
not_script (Err error.Bind) h u = absurd (h refl)
not_script (Err (error.Read why)) h u = u
not_script (Err (error.Script why)) h u = u
not_script (Err (error.Turns why)) h u = u

-- what it comes to after the bind is what it comes to
pub after_bind : (n : Settings) (places : Peers) (left : Option (List ℕ)) (ended : Result (Unit {0}) Stop) (before now : Outside) (calls : Option (List Made)) → Adds before.calls calls (bind_call n.at (Ok (tt {0}))) → IfSome left (λ bytes. ScriptComesTo n places bytes ended (told before.readings calls before.written) now) → IfSome left (λ bytes. NodeComesTo n places bytes ended before now)
after_bind n places None ended before now calls a h = tt
after_bind n places (Some bytes) ended before now calls a h = (calls, a, h)

pub on_ok : {T E : Type 0} {P Q : Type 0} (r : Result T E) → (P → Q) → OnOk r P → OnOk r Q
on_ok (Ok x) f p = f p
on_ok (Err e) f p = p

-- what holds of the bytes that were read holds of those that the source told
pub as_told : (left : Option (List ℕ)) (bytes : List ℕ) (P : List ℕ → Type 0) → IfSome left (λ xs. bytes ≡ xs) → P bytes → IfSome left P
as_told None bytes P e h = tt
as_told (Some xs) bytes P e h = subst P e h
