mod Parts
mod Written
mod NoFeeds
mod Distinct
