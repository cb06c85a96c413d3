-- "given exactly when": of each call, which number it answers and with which place, for every outcome that meets its promise. A statement
-- is the call's rows of document 01's table, its buffers with their lengths in row 2; a proof is the rows' laws. Assumes nothing.
use mathlib.Core.List.{List, [], ◌∷◌}
use mathlib.Core.Path.{refl}
use Prim.Native.Nat.{ℕ, ◌+◌, ◌*◌, ◌/◌}
use lib.ListN.{length}
use Rattle.packing.specs.Packing.{groups}
use Rattle.answers.specs.Answers.{Answer}
use Rattle.answers.specs.Answers.{number_of, place_of}
use Rattle.answers.specs.Replies.{reply}
use Rattle.answers.specs.Sets.{parameters_of}
use Rattle.calls_product.specs.Product.{product_reply, Product}
use Rattle.calls_transforms.specs.Transform.{list_reply, Transform}
use Rattle.calls_transforms.specs.Reverse.{Reverse}
use Rattle.calls_make.specs.Make.{make_reply, Make}
use Rattle.calls_r_image.specs.RImage.{r_image_reply, RImage}
use Rattle.calls_seal.specs.Seal.{seal_reply, Seal}
use Rattle.calls_open_1.specs.OpenOne.{open_one_reply, OpenOne}
use Rattle.calls_open_2.specs.OpenTwo.{open_two_reply, OpenTwo}
use Rattle.calls_open_3.specs.OpenThree.{open_three_reply, OpenThree}
use Rattle.demands.specs.Exactly.{Exactly}
use Rattle.demands.specs.Table.{unknown_set, wrong_length, large_number}
use Rattle.demands.specs.TableOwn.{zero_slot, bad_mark, differs}
use Rattle.demands.proofs.ExactlyLaws.{of_outcome, done, right, in_order_lem, in_range_lem, slots_zero, marks_bad, images_differ}

-- a call that takes one list to another
list_exactly : (set : ℕ) (a before : List ℕ)
    → Exactly (unknown_set set ∷ wrong_length ((a, set) ∷ (before, set) ∷ []) ∷ large_number (a ∷ []) ∷ []) (list_reply set a (length before))
unfolding list_reply right parameters_of
list_exactly set a before = in_order_lem set _ _ _ _ (λ w step. refl) (λ s e. in_range_lem (a ∷ []) [] (reply 0 0) (done 3))

module _ (set : ℕ) (r : Answer) where
  -- product: "two lists of n numbers", "list of n"
  pub product_exactly : (a b before after : List ℕ) → Product set a b before r after
      → Exactly (unknown_set set ∷ wrong_length ((a, set) ∷ (b, set) ∷ (before, set) ∷ []) ∷ large_number (a ∷ b ∷ []) ∷ [])
      (reply (number_of r) (place_of r))
  unfolding Product product_reply right parameters_of
  product_exactly a b before after o =
      of_outcome _ o (in_order_lem set _ _ _ _ (λ w step. refl) (λ s e. in_range_lem (a ∷ b ∷ []) [] (reply 0 0) (done 3)))

  -- transform: "list of n", "list of n"
  pub transform_exactly : (a before after : List ℕ) → Transform set a before r after
      → Exactly (unknown_set set ∷ wrong_length ((a, set) ∷ (before, set) ∷ []) ∷ large_number (a ∷ []) ∷ []) (reply (number_of r) (place_of r))
  unfolding Transform
  transform_exactly a before after o = of_outcome _ o (list_exactly set a before)

  -- reverse: the same
  pub reverse_exactly : (a before after : List ℕ) → Reverse set a before r after
      → Exactly (unknown_set set ∷ wrong_length ((a, set) ∷ (before, set) ∷ []) ∷ large_number (a ∷ []) ∷ []) (reply (number_of r) (place_of r))
  unfolding Reverse
  reverse_exactly a before after o = of_outcome _ o (list_exactly set a before)

  -- make: "seed block n/2", "public key 3n/2, private key 3n"
  pub make_exactly : (seed public private public' private' : List ℕ) → Make set seed public private r public' private'
      → Exactly (unknown_set set ∷ wrong_length ((seed, set / 2) ∷ (public, 3 * set / 2) ∷ (private, 3 * set) ∷ []) ∷ zero_slot set seed ∷ [])
      (reply (number_of r) (place_of r))
  unfolding Make make_reply right parameters_of
  make_exactly seed public private public' private' o = of_outcome _ o (in_order_lem set _ _ _ _ (λ w step. refl) (slots_zero set seed))

  -- r-image: "H block 32 + n/4", "packed image of r, 3n/2"
  pub r_image_exactly : (hblock image image' : List ℕ) → RImage set hblock image r image'
      → Exactly (unknown_set set ∷ wrong_length ((hblock, 32 + set / 4) ∷ (image, 3 * set / 2) ∷ []) ∷ []) (reply (number_of r) (place_of r))
  unfolding RImage r_image_reply right parameters_of
  r_image_exactly hblock image image' o = of_outcome _ o (in_order_lem set _ _ _ _ (λ w step. refl) (λ s e. done 2))

  -- seal: "public key, message n/8, H block, G block n/4", "ciphertext 3n/2, key 32"
  pub seal_exactly : (public message hblock gblock cipher key cipher' key' : List ℕ)
      → Seal set public message hblock gblock cipher key r cipher' key'
      → Exactly (unknown_set set ∷ wrong_length ((public, 3 * set / 2) ∷ (message, set / 8) ∷ (hblock, 32 + set / 4) ∷ (gblock, set / 4)
      ∷ (cipher, 3 * set / 2) ∷ (key, 32) ∷ []) ∷ large_number (groups public ∷ []) ∷ []) (reply (number_of r) (place_of r))
  unfolding Seal seal_reply right parameters_of
  seal_exactly public message hblock gblock cipher key cipher' key' o =
      of_outcome _ o (in_order_lem set _ _ _ _ (λ w step. refl) (λ s e. in_range_lem (groups public ∷ []) [] (reply 0 0) (done 3)))

  -- open-1: "private key, ciphertext", "marks n, packed image of r"
  pub open_one_exactly : (private cipher marks image marks' image' : List ℕ) → OpenOne set private cipher marks image r marks' image'
      → Exactly (unknown_set set ∷ wrong_length ((private, 3 * set) ∷ (cipher, 3 * set / 2) ∷ (marks, set) ∷ (image, 3 * set / 2) ∷ [])
      ∷ large_number (groups private ∷ groups cipher ∷ []) ∷ []) (reply (number_of r) (place_of r))
  unfolding OpenOne open_one_reply right parameters_of
  open_one_exactly private cipher marks image marks' image' o =
      of_outcome _ o
      (in_order_lem set _ _ _ _ (λ w step. refl) (λ s e. in_range_lem (groups private ∷ groups cipher ∷ []) [] (reply 0 0) (done 3)))

  -- open-2: "marks, G block", "message"
  pub open_two_exactly : (marks gblock message message' : List ℕ) → OpenTwo set marks gblock message r message'
      → Exactly (unknown_set set ∷ wrong_length ((marks, set) ∷ (gblock, set / 4) ∷ (message, set / 8) ∷ []) ∷ bad_mark marks ∷ [])
      (reply (number_of r) (place_of r))
  unfolding OpenTwo open_two_reply right parameters_of
  open_two_exactly marks gblock message message' o = of_outcome _ o (in_order_lem set _ _ _ _ (λ w step. refl) (λ s e. marks_bad marks))

  -- open-3: "packed image of r, H block", "key"
  pub open_three_exactly : (image hblock key key' : List ℕ) → OpenThree set image hblock key r key'
      → Exactly (unknown_set set ∷ wrong_length ((image, 3 * set / 2) ∷ (hblock, 32 + set / 4) ∷ (key, 32) ∷ [])
      ∷ large_number (groups image ∷ []) ∷ differs set image hblock ∷ []) (reply (number_of r) (place_of r))
  unfolding OpenThree open_three_reply right parameters_of
  open_three_exactly image hblock key key' o =
      of_outcome _ o
      (in_order_lem set _ _ _ _ (λ w step. refl) (λ s e. in_range_lem (groups image ∷ []) _ _ (images_differ set image hblock s e)))
