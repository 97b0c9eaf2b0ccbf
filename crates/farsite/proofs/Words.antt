-- What the words ask for, where they are a form.
use Rattle.std.proofs.Common.{◌≡◌, ℕ, subst, sym, ◌∙◌, inl, inr}
use Rattle.std.specs.Prelude.{Ok, Err, IfOk, ◌⊎◌}
use Rattle.fs_words.specs.Usage.{Asked}
use Rattle.fs_words.specs.declared.command.Command.{Command}
use Rattle.fs_words.specs.declared.command.Command.TheVariants.{Run, Node}
use Rattle.fs_words.specs.declared.command.Format.{Format}
use Rattle.fs_words.specs.declared.command.Settings.{Settings}
use Rattle.farsite.specs.Commands.{IsNoNode, IsScheduled, IsSilent}
use Rattle.farsite.specs.declared.status.Status.{Status}
use Rattle.farsite.specs.declared.status.Status.TheVariants as status

module _ {o : Asked} {x command : Command} (e : Ok x ≡ o) (is : x ≡ command) where
  -- what holds of the command holds of what they ask for
  pub as_asked : (P : Command → Type 0) → P command → IfOk o P
  as_asked P h = subst (λ (y : Asked). IfOk y P) e (subst P (sym is) h)

  -- and what holds of what they ask for holds of the command
  pub of_asked : (P : Asked → Type 0) → P o → P (Ok command)
  of_asked P h = subst (λ (y : Command). P (Ok y)) is (subst P (sym e) h)

  pub or_asked : {A : Type 0} (P : Command → Type 0) → A ⊎ P command → A ⊎ IfOk o P
  or_asked P (inl a) = inl a
  or_asked P (inr h) = inr (as_asked P h)

  -- they are a form
  pub no_word : {A : Type 0} (word : ℕ) → o ≡ Err word → A
  no_word word h = absurd (cc (e, h))

pub is_scheduled : {o : Asked} {x : Command} {format : Format} → Ok x ≡ o → x ≡ Run format → IsScheduled o
is_scheduled e is = subst (λ (y : Asked). IsScheduled y) e (subst (λ (y : Command). IsScheduled (Ok y)) (sym is) tt)

pub is_node : {o : Asked} {x : Command} {n : Settings} → Ok x ≡ o → x ≡ Node n → IsNoNode o → ⊥
is_node e is h = of_asked e is (λ (asked : Asked). IsNoNode asked) h

-- where nothing was written, it is not done, and no write failed
pub silent_not_done : (o : Asked) (s : Status) → IsSilent o s → s ≡ status.Done → ⊥
silent_not_done o s h e = subst (λ (t : Status). IsSilent o t) e h

pub silent_not_cut : (o : Asked) (s : Status) → IsSilent o s → s ≡ status.WriteFault → ⊥
silent_not_cut o s h e = subst (λ (t : Status). IsSilent o t) e h
