-- What is still to come at a joiner.
use Rattle.std.specs.Prelude.{◌≡◌, ◌++◌, List, [], ℕ, map, IsOk}
use Rattle.std.specs.List.{AllByRecursion}
use Rattle.fs_frag.specs.declared.joined.Joined.TheVariants.{Whole}
use Rattle.fs_frag.specs.Joined.{answers, held_by, joined_of, messages_of}

-- a joiner that holds these bytes gives these messages of these segments, never overflows, and holds nothing then
pub record IsComing (held : List ℕ) (segments messages : List (List ℕ)) : Type 0 where
  pub given : messages_of (answers held segments) ≡ messages
  pub fits : AllByRecursion IsOk (answers held segments)
  pub ends : held_by held segments ≡ []

-- some segments come
pub record HaveCome (held : List ℕ) (now later messages : List (List ℕ)) : Type 0 where
  -- the messages that they complete begin those that were to come
  pub rest : List (List ℕ)
  pub messages_now : messages_of (answers held now) ++ rest ≡ messages
  -- none is too much
  pub joined : joined_of (answers held now) ≡ map Whole (messages_of (answers held now))
  -- and the others are still to come
  pub coming : IsComing (held_by held now) later rest
