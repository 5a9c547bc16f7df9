use Rattle.slab_model.proofs.Laws.{grant-sound, give_back-sound, fits-grant}
use Rattle.slab_model.proofs.BlockLaws.{fresh-law, grant-grants, new_block-law, grant-none, give_back-returns, blocks-law}
use Rattle.slab_model.proofs.StateLemmas.{lowest-law}
use Rattle.slab_model.proofs.CountLaws.{pages-law, grant_pages-law, return_pages-law, round_trip-law}
use Rattle.slab_model.proofs.RequestLaws.{requests-law, return_counts-law, return_used-law}
use Rattle.slab_model.proofs.theorems.laws.Goals as goal

pub returns : goal.returns
returns c = record {
  fresh = fresh-law;
  grant_sound = grant-sound;
  return_sound = give_back-sound;
  grants = grant-grants;
  new_block = new_block-law;
  no_grant = grant-none;
  returns = give_back-returns;
  blocks = blocks-law;
  lowest = lowest-law;
  pages = pages-law;
  grant_pages = grant_pages-law;
  return_pages = return_pages-law;
  round_trip = round_trip-law;
  fits = fits-grant;
  requests = requests-law;
  return_counts = return_counts-law;
  return_used = return_used-law;
}
