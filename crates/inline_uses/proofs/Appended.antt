-- The ids of texts that an iterator gives, appended one by one.
use Rattle.std.proofs.Common.{◌≡◌, ℕ, List, [], ◌∷◌, ◌++◌, Option, Some, None, Result, Ok, Err, OnOk, OnErr, slice_get, sym, ap, ◌∙◌, subst, append-nil}
use Rattle.std.proofs.lemmas.List.{append_assoc}
use Rattle.std.proofs.iter.runs.Made.{run_of_exit, run_of_turn}
use Rattle.std.proofs.lemmas.Bool.{false≢true}
use Rattle.std.specs.Borrow.{Bor}
use Rattle.std.specs.Iterator.{Yields}
use Rattle.std.specs.Iterator.Runs.{SomeRun, WholeRun}
use Rattle.std.specs.Result.{IsErr}
use Rattle.inline_uses.specs.Symbols.{AreIdsOf, HasAppended, HasAppendedAllButLast}

-- each text of the table has the same id in another
abbrev pub Keeps : List (List ℕ) → List (List ℕ) → Type 0
Keeps old new = (i : ℕ) (known : List ℕ) → slice_get old i ≡ Some known
    → slice_get new i ≡ Some known

pub none_appended : (texts : List (List ℕ)) (ids : List ℕ) → HasAppended texts ids [] ids
none_appended texts ids = ([], tt, sym (append-nil ids))

-- the ids are kept, and one comes after them
ids_more : (mid new : List (List ℕ)) (items : List (Bor (List ℕ))) (ids : List ℕ)
    (s : Bor (List ℕ)) (id : ℕ) → Keeps mid new → slice_get new id ≡ Some s.now
    → AreIdsOf mid items ids → AreIdsOf new (items ++ s ∷ []) (ids ++ id ∷ [])
ids_more mid new [] [] s id keeps is all = (is, tt)
ids_more mid new [] (i ∷ ids) s id keeps is all = absurd all
ids_more mid new (t ∷ items) [] s id keeps is all = absurd all
ids_more mid new (t ∷ items) (i ∷ ids) s id keeps is all =
    (keeps i t.now all.0, ids_more mid new items ids s id keeps is all.1)

pub appended_more : (mid new : List (List ℕ)) (old ids more : List ℕ)
    (items : List (Bor (List ℕ))) (s : Bor (List ℕ)) (id : ℕ) → Keeps mid new
    → slice_get new id ≡ Some s.now → more ≡ ids ++ id ∷ [] → HasAppended mid old items ids
    → HasAppended new old (items ++ s ∷ []) more
appended_more mid new old ids more items s id keeps is e h = (
  h.0 ++ id ∷ [],
  ids_more mid new items h.0 s id keeps is h.1,
  e ∙ ap (λ l. l ++ id ∷ []) h.2 ∙ append_assoc old h.0 (id ∷ []),
)

-- ids that are there stay those of their texts
ids_kept : (mid new : List (List ℕ)) (items : List (Bor (List ℕ))) (ids : List ℕ)
    → Keeps mid new → AreIdsOf mid items ids → AreIdsOf new items ids
ids_kept mid new [] [] keeps all = tt
ids_kept mid new [] (i ∷ ids) keeps all = absurd all
ids_kept mid new (t ∷ items) [] keeps all = absurd all
ids_kept mid new (t ∷ items) (i ∷ ids) keeps all =
    (keeps i t.now all.0, ids_kept mid new items ids keeps all.1)

pub appended_kept : (mid new : List (List ℕ)) (old ids same : List ℕ)
    (items : List (Bor (List ℕ))) → Keeps mid new → same ≡ ids → HasAppended mid old items ids
    → HasAppended new old items same
appended_kept mid new old ids same items keeps e h =
    (h.0, ids_kept mid new items h.0 keeps h.1, e ∙ h.2)

-- all that an iterator gave, at its end
pub all_appended : {S : Type 0} (gives : S → Option (Bor (List ℕ)) → S → Type 0)
    {begin it here : S} (rest : S) (items : List (Bor (List ℕ))) → begin ≡ it
    → Yields gives begin items here → (texts : List (List ℕ)) (old new : List ℕ)
    → HasAppended texts old items new → gives here None rest
    → WholeRun gives it (λ run. HasAppended texts old run.items new)
all_appended gives {here = here} rest items from led texts old new h step =
    let run = run_of_exit gives _ items here (rw from at led) rest step in
    (run.0, run.1, run.2, subst (λ l. HasAppended texts old l new) (sym run.3.0) h)

-- and all before the last that it gave
pub all_but_last_appended : {S : Type 0} (gives : S → Option (Bor (List ℕ)) → S → Type 0)
    {begin it here : S} (rest : S) (items : List (Bor (List ℕ))) (s : Bor (List ℕ)) → begin ≡ it
    → Yields gives begin items here → (texts : List (List ℕ)) (old new : List ℕ)
    → HasAppended texts old items new → gives here (Some s) rest
    → SomeRun gives it (λ run. HasAppendedAllButLast texts old run.items new)
all_but_last_appended gives {here = here} rest items s from led texts old new h step =
    let run = run_of_turn gives _ items here (rw from at led) s rest step in
    (run.0, run.1, (items, s, run.2.0, h))

-- what a call says of its refusal, and of the other end
pub refused : {T E Q : Type 0} (P : Type 0) (r : Result T E) → IsErr r → Q → OnOk r P × OnErr r Q
refused P (Ok x) is q = absurd (false≢true is)
refused P (Err x) is q = (tt, q)
