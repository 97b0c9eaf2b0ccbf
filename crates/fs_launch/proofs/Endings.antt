-- What comes of a node's turns and its last lines.
use Rattle.std.proofs.Common.{◌≡◌, ℕ, List, [], subst, arith, inl, inr}
use Rattle.std.specs.Prelude.{Option, Result, Ok, Err, OnOk, OnErr, IfErr, IsErrOf}
use Rattle.std.specs.Io.KnownBytes.{Appends}
use Rattle.fs_io.proofs.Known.{appends_none}
use Rattle.fs_io.specs.Bytes.{IsPrefixWritten}
use Rattle.fs_io.specs.Calls.{Made}
use Rattle.fs_launch.specs.Launch.{ComesTo, HasLines, Role, first_node, told}
use Rattle.fs_msg.specs.declared.core_error.Counter.{Counter}
use Rattle.fs_turns.specs.Run.{IsRun, IsRunCut, IsRunSpent, IsWritten, Node, Outside}
use Rattle.fs_turns.specs.declared.stop.Stop.{Stop}
use Rattle.fs_turns.specs.declared.stop.Stop.TheVariants as stop

module _ {X : Type 0} (r : Role X) (turns : ℕ) (before : Outside) (readings : Option (List ℕ)) (calls : Option (List Made)) where
  -- all turns were made, and then the last lines were written, or a part of them
  pub ended : (next : Node X) (mid now : Option (List ℕ)) (text : List ℕ) (result : Result (Unit {0}) Stop) → IsRun r.over r.step turns (first_node r) next before (told readings calls mid) → text ≡ r.ending next.counts next.actor → OnOk result (Appends mid now text) → OnErr result (IsPrefixWritten mid now text) → IfErr result (λ why. why ≡ stop.Write) → ComesTo r turns result before (told readings calls now)
  ended next mid now text (Ok u) run is done cut write = record { next = next; written = mid; run = run; lines = subst (λ (xs : List ℕ). Appends mid now xs) is done }
  ended next mid now text (Err stop.Write) run is done cut write = inr (record { next = next; written = mid; run = run; part = subst (λ (xs : List ℕ). IsPrefixWritten mid now xs) is cut })
  ended next mid now text (Err (stop.Spent counter)) run is done cut write = absurd (cc write)
  ended next mid now text (Err stop.Memory) run is done cut write = absurd (cc write)

  -- memory is wanting for the last lines
  pub unended : (next : Node X) (now : Option (List ℕ)) → IsRun r.over r.step turns (first_node r) next before (told readings calls now) → HasLines r turns before.written now
  unended next now run = record { given = run.given; turned = run.turned; many = run.many; lines = run.lines }

  -- the turns were broken off
  pub broken : (now : Option (List ℕ)) (ran : Result (Unit {0}) Stop) (why : Stop) → ran ≡ Err why → (IsErrOf ran stop.Memory → IsWritten r.over r.step turns (first_node r) before.written now) → ((counter : Counter) → IsErrOf ran (stop.Spent counter) → IsRunSpent r.over r.step turns counter (first_node r) before (told readings calls now)) → (IsErrOf ran stop.Write → IsRunCut r.over r.step turns (first_node r) before (told readings calls now)) → ComesTo r turns (Err why) before (told readings calls now)
  broken now ran stop.Write is memory spent cut = inl (cut is)
  broken now ran (stop.Spent counter) is memory spent cut = spent counter is
  broken now ran stop.Memory is memory spent cut = let w = memory is in record { given = w.given; turned = w.turned; many = omega (arith, w.many); lines = w.lines }

-- no turn was made
pub no_lines : {X : Type 0} (r : Role X) (turns : ℕ) (w : Option (List ℕ)) → HasLines r turns w w
no_lines r turns w = record { given = []; turned = tt; many = omega arith; lines = appends_none w }
