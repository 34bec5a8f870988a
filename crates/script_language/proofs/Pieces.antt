-- Bytes that are read or written piece by piece.
use Rattle.std.proofs.Common.{◌≡◌, ℕ, ◌+◌, ◌-◌, ◌≤◌, ◌<◌, List, ◌++◌, length, take, drop, sym, ap, subst, ◌∙◌, append_assoc, length-append, length-take-le, take-append-drop, arith, Option, Some, None, IfSome}
use Rattle.std.specs.Io.KnownBytes.{Consumes}
use Rattle.std.proofs.Math.Seq.{take-append-add}
use Rattle.std.proofs.lemmas.List.{take-append-le, take_rest}
use borrow.Rule.Slice.PartMut.{put_mid, post_of}

-- a piece read into the room from `filled` on follows what was read before
pub filled_with_piece : (filled k count : ℕ) (room piece : List ℕ)
    → filled ≤ length room → count ≤ length piece
    → take filled room ++ take count piece ≡ take (filled + count) (put_mid filled k room piece)
filled_with_piece filled k count room piece within fits =
    let rest = post_of filled k room in
    sym (ap (λ n. take (n + count) (put_mid filled k room piece))
    (sym (length-take-le filled room within))
    ∙ take-append-add (take filled room) (piece ++ rest) count
    ∙ ap (λ l. take filled room ++ l) (take-append-le count piece rest fits))

-- a piece written off the front of the rest moves to the end of what is done
pub done_with_piece : (all done rest : List ℕ) (count : ℕ) → all ≡ done ++ rest
    → all ≡ (done ++ take count rest) ++ take (length rest - count) (drop count rest)
done_with_piece all done rest count split =
    split
    ∙ ap (λ l. done ++ l) (sym (take-append-drop count rest))
    ∙ sym (append_assoc done (take count rest) (drop count rest))
    ∙ ap (λ l. (done ++ take count rest) ++ l) (sym (take_rest rest count))

-- an input has no fewer bytes than were read of it
pub input_is_longer : (most : ℕ) (old new : Option (List ℕ)) (bytes : List ℕ)
    → Consumes old new bytes → most < length bytes → IfSome old (λ all. most < length all)
input_is_longer most None new bytes read more = tt
input_is_longer most (Some all) None bytes read more = elim read [ ]
input_is_longer most (Some all) (Some rest) bytes read more =
    subst (λ l. most < length l) (sym read) (omega (arith, length-append bytes rest))
