mod Caches
